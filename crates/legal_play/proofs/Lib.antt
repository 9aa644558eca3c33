pub use Rattle.legal_steps.proofs as LegalSteps
pub use Rattle.history_play.proofs as HistoryPlay
pub mod MayLemmas
pub mod LoopLemmas
pub mod PassedLemmas
pub mod CallsLaw
pub mod AnswerLemmas
pub mod BoardLemmas
pub mod PartsLaw

pub use Rattle.history_calls.proofs as HistoryCalls
pub mod CheckLemmas
pub mod CourseLemmas
pub mod PlayedLemmas

pub use Rattle.legal_play.proofs as LegalPlay
pub mod PartLemmas
pub mod VerdictLemmas
pub mod ReadLemmas
pub mod GivenLemmas
pub mod ToldLemmas
pub mod GoLemmas
pub mod WorkedLemmas
pub mod FaultlessLaw

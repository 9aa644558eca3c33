pub use Rattle.gic_resume.proofs as GicResume
pub mod RowLemmas
pub mod RecLemmas
pub mod ListLemmas
pub mod GuestLemmas
pub mod HeadLemmas
pub mod TurnLemmas
pub mod ReadLemmas

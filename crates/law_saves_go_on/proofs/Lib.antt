pub use Rattle.law_runs_split.proofs as RunsSplit
pub use Rattle.saved_take.proofs as SavedTake
pub mod PlaceLemmas
pub mod OwnLemmas
pub mod StoredLemmas
pub mod TextLemmas
pub mod ShapeLemmas
pub mod ResumeLemmas
pub mod AlikeLemmas

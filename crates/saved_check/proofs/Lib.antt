pub use Rattle.saved_guest.proofs as SavedGuest
pub mod OrderLemmas
pub mod TableLemmas
pub mod RecOrder
pub mod CopyLemmas
pub mod GrowLemmas
pub mod StateLemmas
pub mod RunLemmas

pub use Rattle.saved_guest.proofs as SavedGuest
pub mod FillLemmas
pub mod WordBack
pub mod RecBack
pub mod BackLemmas
pub mod StandingBack
pub mod RunLemmas

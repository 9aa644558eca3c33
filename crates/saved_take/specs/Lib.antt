pub use Rattle.saved_guest.specs as SavedGuest
pub mod Taken
pub mod Back
pub mod Run

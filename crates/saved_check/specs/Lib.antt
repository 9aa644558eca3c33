pub use Rattle.saved_guest.specs as SavedGuest
pub mod Tables
pub mod Rows
pub mod Parts

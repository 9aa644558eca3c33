pub use Rattle.ideal_guest.specs as IdealGuests
pub use Rattle.scn_saved.specs as ScnSaved
pub mod State
pub mod Valid
pub mod Standing
pub mod Whole

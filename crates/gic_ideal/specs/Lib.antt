pub use Rattle.ideal_guest.specs as IdealGuests
pub use Rattle.scn_base.specs as ScnBase
pub mod Ends
pub mod Shown
pub mod Eager
pub mod Deeds
pub mod Laws

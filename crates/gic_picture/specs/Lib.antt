pub use Rattle.scn_base.specs as ScnBase
pub use Rattle.ideal_guest.specs as IdealGuests
pub use Rattle.gic_ideal.specs as GicIdeal
pub mod Names
pub mod Marks
pub mod Steps
pub mod Rows
pub mod Picture
pub mod Bars

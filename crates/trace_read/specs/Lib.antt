pub use Rattle.scn_read.specs as ScnRead
pub use Rattle.floor_calls.specs.GicCall
pub mod Name
pub mod Part
pub mod Call
pub mod Act
pub mod Reading

pub use Rattle.gic_frame.specs as GicFrame
pub mod Contents
pub mod Map
pub mod Law

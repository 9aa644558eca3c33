pub use Rattle.gic_ideal.specs as GicIdeal
pub mod Moments
pub mod Calls
pub mod Possible
pub mod Laws

pub use Rattle.gic_ideal.specs as GicIdeal
pub mod Split
pub mod Faults

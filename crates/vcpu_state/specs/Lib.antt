pub use Rattle.gic_ich.specs.GicWord
pub mod Fold
pub mod Holding
pub mod Moves
pub mod Places

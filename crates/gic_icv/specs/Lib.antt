pub use Rattle.gic_ich.specs.GicLr
pub use Rattle.gic_ich.specs.GicWord
pub mod Trap
pub mod Entries
pub mod Registers
pub mod Agree

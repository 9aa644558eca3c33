pub use Rattle.gic_ram.specs.Words
pub use Rattle.gic_ram.specs.GicBase
pub use Rattle.gic_ram.specs as GicRam
pub use Rattle.gic_ram.specs.GicWord
pub mod Good

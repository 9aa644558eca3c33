pub use Rattle.gic_base.specs as GicBase
pub use Rattle.gic_bits.specs as GicBits
pub mod Record
pub mod Causes
pub mod Word
pub mod Valid
pub mod CauseBits
pub mod ReleaseBits

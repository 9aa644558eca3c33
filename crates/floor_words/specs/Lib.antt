pub use Rattle.gic_word.specs.GicBase
pub use Rattle.gic_word.specs as GicWord
pub mod Words

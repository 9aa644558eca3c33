pub use Rattle.floor_words.specs.Words
pub use Rattle.floor_words.specs.GicBase
pub use Rattle.floor_words.specs.GicWord
pub mod Tables
pub mod Access
pub mod Bytes

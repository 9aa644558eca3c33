pub use Rattle.floor_words.specs.Words
pub use Rattle.floor_words.specs.GicWord
pub mod Entry
pub mod Status

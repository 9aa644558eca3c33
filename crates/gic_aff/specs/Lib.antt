pub use Rattle.floor_words.specs.Words
pub use Rattle.floor_words.specs.GicBase
pub mod Affinity
pub mod Sgi

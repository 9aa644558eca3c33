pub use Rattle.floor_words.specs.Words
pub mod Number
pub mod Field
pub mod Command
pub mod Laws
pub mod Queue

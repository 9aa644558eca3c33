pub use Rattle.floor_words.proofs.GicBits
pub use Rattle.floor_words.proofs.GicWord
pub mod WordLemmas

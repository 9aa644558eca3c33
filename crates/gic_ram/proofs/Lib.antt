pub use Rattle.floor_words.proofs.GicBase
mod PartLemmas
mod ByteLemmas

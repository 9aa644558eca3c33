pub use Rattle.gic_word.proofs.GicBase
pub use Rattle.gic_word.proofs.GicBits
pub use Rattle.gic_word.proofs as GicWord

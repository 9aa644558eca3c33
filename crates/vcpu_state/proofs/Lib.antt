pub use Rattle.gic_ich.proofs.GicBase
pub use Rattle.gic_ich.proofs.GicWord
pub mod BackLemmas
pub mod HeldLemmas
pub mod PlaceLemmas

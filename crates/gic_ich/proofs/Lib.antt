pub use Rattle.gic_lr.proofs.GicBase
pub use Rattle.gic_lr.proofs.GicBits
pub use Rattle.gic_prio.proofs as GicPrio
pub use Rattle.gic_lr.proofs.GicWord

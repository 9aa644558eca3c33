pub use Rattle.gic_history.proofs.GicBase
pub use Rattle.gic_history.proofs.GicCall
pub use Rattle.gic_history.proofs.GicFrame
pub use Rattle.gic_history.proofs as GicHistory
pub use Rattle.gic_history.proofs.GicOpen
pub use Rattle.gic_history.proofs.GicPrio
pub use Rattle.gic_history.proofs.GicWord
pub use Rattle.gic_history.proofs.IdealGuests
pub use Rattle.gic_history.proofs.ItsTab

pub use Rattle.gic_call.proofs.GicBase
pub use Rattle.gic_call.proofs.GicBits
pub use Rattle.gic_call.proofs as GicCall
pub use Rattle.gic_call.proofs.GicFrame
pub use Rattle.gic_call.proofs.GicOpen
pub use Rattle.gic_call.proofs.GicPrio
pub use Rattle.gic_call.proofs.GicWord
pub use Rattle.gic_call.proofs.ItsTab

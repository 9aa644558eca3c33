pub use Rattle.core_proper.proofs as CoreProper
pub use Rattle.core_proper.proofs.GicBase
pub use Rattle.core_proper.proofs.GicCall
pub use Rattle.core_proper.proofs.GicFrame
pub use Rattle.core_proper.proofs.GicHistory
pub use Rattle.core_proper.proofs.GicIcv
pub use Rattle.core_proper.proofs.GicWord
pub use Rattle.core_proper.proofs.ItsTab
pub use Rattle.core_proper.proofs.PortCore
pub use Rattle.core_proper.proofs.VcpuRefill

pub use Rattle.gic_ram.proofs.GicBase
pub use Rattle.gic_aff.proofs.GicBits
pub use Rattle.gic_dmap.proofs as GicDmap
pub use Rattle.gic_dmap.proofs.GicFrame
pub use Rattle.gic_prio.proofs as GicPrio
pub use Rattle.gic_aff.proofs.GicWord
pub use Rattle.its_tab.proofs as ItsTab

pub use Rattle.gic_aff.specs.Words
pub use Rattle.gic_aff.specs.GicBase
pub use Rattle.gic_dmap.specs as GicDmap
pub use Rattle.gic_dmap.specs.GicFrame
pub use Rattle.gic_imap.specs as GicImap
pub use Rattle.gic_rmap.specs as GicRmap
pub use Rattle.gic_ram.specs.GicWord
pub use Rattle.its_tab.specs.ItsCmd
pub mod Registers

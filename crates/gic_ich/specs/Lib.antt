pub use Rattle.gic_lr.specs.Words
pub use Rattle.gic_lr.specs as GicLr
pub use Rattle.gic_prio.specs as GicPrio
pub use Rattle.gic_lr.specs.GicWord
pub mod Hcr
pub mod Regs
pub mod Status
pub mod Vmcr
pub mod Place

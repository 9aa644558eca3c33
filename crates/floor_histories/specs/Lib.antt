pub use Rattle.gic_history.specs.Calls
pub use Rattle.gic_history.specs.Registers
pub use Rattle.gic_history.specs.Words
pub use Rattle.gic_history.specs.GicBase
pub use Rattle.gic_history.specs.GicCall
pub use Rattle.gic_history.specs.GicDmap
pub use Rattle.gic_history.specs.GicGuest
pub use Rattle.gic_history.specs as GicHistory
pub use Rattle.gic_history.specs.GicImap
pub use Rattle.gic_history.specs.GicRmap
pub use Rattle.gic_history.specs.IdealGuests
pub use Rattle.gic_history.specs.ItsCmd
pub mod Histories

pub use Rattle.gic_call.specs.Registers
pub use Rattle.gic_call.specs.Words
pub use Rattle.gic_call.specs.GicBase
pub use Rattle.gic_call.specs as GicCall
pub use Rattle.gic_call.specs.GicDmap
pub use Rattle.gic_call.specs.GicGuest
pub use Rattle.gic_call.specs.GicImap
pub use Rattle.gic_call.specs.GicRmap
pub use Rattle.gic_call.specs.GicWord
pub use Rattle.gic_call.specs.ItsCmd
pub mod Calls

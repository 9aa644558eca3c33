pub use Rattle.port_ops.specs.Calls
pub use Rattle.law_core_is_history.specs.Core
pub use Rattle.law_core_is_history.specs.Histories
pub use Rattle.port_ops.specs.Registers
pub use Rattle.port_ops.specs.Words
pub use Rattle.port_ops.specs.GicBase
pub use Rattle.port_ops.specs.GicCall
pub use Rattle.port_ops.specs.GicDmap
pub use Rattle.port_ops.specs.GicGuest
pub use Rattle.law_core_is_history.specs.GicHistory
pub use Rattle.guest_end.specs.GicIdeal
pub use Rattle.port_ops.specs.GicImap
pub use Rattle.port_ops.specs.GicRmap
pub use Rattle.guest_end.specs as GuestEnd
pub use Rattle.guest_end.specs.IdealGuests
pub use Rattle.port_ops.specs as PortOps
pub use Rattle.guest_end.specs.ScnBase
pub mod End
pub mod Worked

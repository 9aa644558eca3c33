pub use Rattle.port_ops.specs.Calls
pub use Rattle.port_ops.specs as PortOps
pub use Rattle.scn_base.specs as ScnBase
pub mod View
pub mod Slot
pub mod Rule
pub mod Told
pub mod Ports
pub mod Kept
pub mod All
pub mod Laws
pub mod Out

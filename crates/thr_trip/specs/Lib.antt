pub use Rattle.pe_place.specs.Core
pub use Rattle.pe_place.specs.LawEagerIsHistory
pub use Rattle.pe_place.specs.PeLoop
pub use Rattle.port_table.specs.PortOps
pub use Rattle.port_table.specs as PortTable
pub use Rattle.vcpu_shelf.specs as VcpuShelf
pub use Rattle.pe_place.specs.VcpuState
pub mod Script
pub mod Gone
pub mod Trip
pub mod Device
pub mod Told
pub mod Operate
pub mod Worker
pub mod Seat
pub mod Finish

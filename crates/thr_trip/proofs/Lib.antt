pub use Rattle.pe_place.proofs.PortCall
pub use Rattle.port_table.proofs as PortTable
pub use Rattle.vcpu_shelf.proofs as VcpuShelf
pub mod CallLemmas
pub mod GoneLemmas
pub mod VisitLemmas
pub mod DeviceLemmas

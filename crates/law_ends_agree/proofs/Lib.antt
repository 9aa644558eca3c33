pub use Rattle.port_ops.proofs.GicFrame
pub use Rattle.law_core_is_history.proofs.GicHistory
pub use Rattle.guest_end.proofs.GicIdeal
pub use Rattle.guest_end.proofs as GuestEnd
pub use Rattle.guest_end.proofs.IdealGuests
pub use Rattle.port_ops.proofs.PortCore
pub use Rattle.port_ops.proofs as PortOps
pub mod SteadyRuns
pub mod EmptyLemmas
pub mod LineLemmas
pub mod TellLemmas
pub mod EndRuns
pub mod WorkedRuns

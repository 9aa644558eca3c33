pub use Rattle.port_core.proofs.GicCall
pub use Rattle.gic_ideal.proofs as GicIdeal
pub use Rattle.gic_ideal.proofs.IdealGuests
pub use Rattle.gic_ideal.proofs.VcpuRefill
mod HomeLemmas
pub mod EndsLemmas
pub mod PropLemmas

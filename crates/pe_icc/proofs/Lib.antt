pub use Rattle.pe_loop.proofs as PeLoop
pub use Rattle.pe_loop.proofs.PortCall
pub use Rattle.pe_loop.proofs.PortCore
pub mod InterfaceLemmas
pub mod OperateLemmas
pub mod PollLemmas
pub mod AmidLemmas
pub mod ReenterLemmas
pub mod SgiLemmas
pub mod IccLemmas
pub mod AloneLemmas
pub mod FarLemmas
pub mod BareLemmas
pub mod FirstLemmas
pub mod ReadyLemmas
pub mod LawLemmas
pub mod LineLemmas

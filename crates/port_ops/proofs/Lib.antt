pub use Rattle.port_core.proofs.GicBase
pub use Rattle.port_core.proofs.GicFrame
pub use Rattle.port_core.proofs.GicOpen
pub use Rattle.port_core.proofs as PortCore
pub mod WordLemmas
pub mod QuietLemmas
pub mod WorldLemmas
pub mod MapLemmas

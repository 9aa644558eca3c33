pub use Rattle.dev_port.proofs.CoreProper
pub use Rattle.dev_port.proofs.PortCall
pub use Rattle.dev_port.proofs.PortCore
pub use Rattle.dev_port.proofs as DevPort
pub mod StepLemmas
pub mod PostLemmas
pub mod FillLemmas
pub mod SendLemmas

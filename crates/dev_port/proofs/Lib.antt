pub use Rattle.its_exec.proofs.CoreProper
pub use Rattle.its_exec.proofs.PortCall
pub use Rattle.its_exec.proofs.PortCore
pub use Rattle.its_exec.proofs as ItsExec
pub mod CallLemmas
pub mod MsiLemmas

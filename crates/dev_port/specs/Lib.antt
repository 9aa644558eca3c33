pub use Rattle.its_exec.specs.Calls
pub use Rattle.its_exec.specs.Core
pub use Rattle.its_exec.specs.Registers
pub use Rattle.its_exec.specs.GicCall
pub use Rattle.its_exec.specs as ItsExec
pub use Rattle.its_exec.specs.Words
pub use Rattle.its_exec.specs.PortCall
pub mod Device

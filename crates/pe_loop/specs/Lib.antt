pub use Rattle.port_call.specs.Calls
pub use Rattle.port_call.specs.Core
pub use Rattle.port_call.specs.Lists
pub use Rattle.port_call.specs.Registers
pub use Rattle.port_call.specs.Words
pub use Rattle.port_call.specs.CoreProper
pub use Rattle.port_call.specs.GicCall
pub use Rattle.port_call.specs.GicImap
pub use Rattle.vcpu_state.specs.GicWord
pub use Rattle.port_call.specs as PortCall
pub use Rattle.vcpu_state.specs as VcpuState
pub mod Steps
pub mod Stay
pub mod Moves
pub mod Candidates
pub mod Counting
pub mod Scanning
pub mod Marking
pub mod Claiming
pub mod Leave
pub mod Enter
pub mod Again

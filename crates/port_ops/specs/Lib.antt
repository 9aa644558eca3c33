pub use Rattle.port_core.specs.Calls
pub use Rattle.port_core.specs.Registers
pub use Rattle.port_core.specs.Words
pub use Rattle.port_core.specs.GicBase
pub use Rattle.port_core.specs.GicCall
pub use Rattle.port_core.specs.GicDmap
pub use Rattle.port_core.specs.GicGuest
pub use Rattle.port_core.specs.GicImap
pub use Rattle.port_core.specs.GicRmap
pub use Rattle.port_core.specs as PortCore
pub mod Ready
pub mod GuestWords
pub mod Quiet
pub mod World
pub mod Opened
pub mod Props

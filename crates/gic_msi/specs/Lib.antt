pub use Rattle.dev_port.specs.Calls
pub use Rattle.dev_port.specs.Core
pub use Rattle.dev_port.specs.GicCall
pub use Rattle.dev_port.specs.Registers
pub use Rattle.dev_port.specs.Words
pub use Rattle.dev_port.specs.PortCall
pub use Rattle.dev_port.specs as DevPort
pub mod Message
pub mod Post
pub mod Fill
pub mod Filling
pub mod Send

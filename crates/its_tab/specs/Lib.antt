pub use Rattle.its_cmd.specs.Words
pub use Rattle.its_cmd.specs as ItsCmd
pub mod Maps
pub mod Room
pub mod Fault
pub mod After
pub mod Message
pub mod Collection

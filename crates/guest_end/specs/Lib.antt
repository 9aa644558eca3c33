pub use Rattle.port_core.specs.Calls
pub use Rattle.port_core.specs.Registers
pub use Rattle.port_core.specs.Words
pub use Rattle.port_core.specs.GicGuest
pub use Rattle.gic_ideal.specs as GicIdeal
pub use Rattle.gic_ideal.specs.IdealGuests
pub use Rattle.gic_ideal.specs.ScnBase
pub mod Home
pub mod Ends
pub mod Outcome

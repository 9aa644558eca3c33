pub use Rattle.ideal_guest.specs as IdealGuest
pub use Rattle.gic_line.specs as GicLine
pub use Rattle.guest_memory.specs as GuestMemory
pub mod Layout
pub mod Encoding
pub mod Lines
pub mod State
pub mod Kept
pub mod Calls
pub mod Signals
pub mod Identity
pub mod Own
pub mod Mmio
pub mod Wants
pub mod Reset
pub mod Keep

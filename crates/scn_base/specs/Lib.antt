pub use Rattle.gic_guest.specs.Words
pub use Rattle.gic_guest.specs.GicBase
pub use Rattle.gic_guest.specs as GicGuest
pub use Rattle.gic_guest.specs.GicRam
pub use Rattle.gic_guest.specs.GicWord
pub mod Codes
pub mod Standing
pub mod Good
pub mod StepFault
pub mod Shown

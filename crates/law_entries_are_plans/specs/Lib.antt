pub use Rattle.law_serial_is_eager.specs.Lists
pub use Rattle.law_serial_is_eager.specs.CoreProper
pub use Rattle.law_serial_is_eager.specs.LawRegistersStand
pub use Rattle.law_serial_is_eager.specs as LawSerialIsEager
pub mod Entry
pub mod Worked

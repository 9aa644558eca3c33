pub use Rattle.law_late_ones_leave.specs.Core
pub use Rattle.law_late_ones_leave.specs.Lists
pub use Rattle.law_late_ones_leave.specs.CoreProper
pub use Rattle.law_accesses_show_home.specs as LawAccessesShowHome
pub use Rattle.law_late_ones_leave.specs.LawCoreIsHistory
pub use Rattle.law_late_ones_leave.specs as LawLateOnesLeave
pub use Rattle.law_late_ones_leave.specs.LawRegistersStand
pub use Rattle.law_late_ones_leave.specs.LawScansMissNone
pub mod Lone
pub mod Worked

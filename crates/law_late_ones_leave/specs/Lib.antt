pub use Rattle.law_scans_miss_none.specs.Calls
pub use Rattle.law_scans_miss_none.specs.Core
pub use Rattle.law_scans_miss_none.specs.Histories
pub use Rattle.law_scans_miss_none.specs.Lists
pub use Rattle.law_scans_miss_none.specs.Registers
pub use Rattle.law_scans_miss_none.specs.Words
pub use Rattle.law_scans_miss_none.specs.CoreProper
pub use Rattle.law_scans_miss_none.specs.LawCoreIsHistory
pub use Rattle.law_scans_miss_none.specs.LawRegistersStand
pub use Rattle.law_scans_miss_none.specs as LawScansMissNone
pub mod Late
pub mod Worked

pub use Rattle.law_core_is_history.specs.Calls
pub use Rattle.law_core_is_history.specs.Core
pub use Rattle.law_core_is_history.specs.Histories
pub use Rattle.law_core_is_history.specs.Lists
pub use Rattle.law_core_is_history.specs.Registers
pub use Rattle.law_core_is_history.specs.Words
pub use Rattle.law_core_is_history.specs.CoreProper
pub use Rattle.law_core_is_history.specs.GicCall
pub use Rattle.law_core_is_history.specs.GicWord
pub use Rattle.law_core_is_history.specs as LawCoreIsHistory
pub mod Followed
pub mod Stands
pub mod Asks
pub mod Ends
pub mod Worked

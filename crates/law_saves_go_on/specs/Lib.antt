pub use Rattle.gic_report.specs as GicReport
pub use Rattle.law_runs_split.specs as RunsSplit
pub use Rattle.saved_take.specs as SavedTake
pub mod Stored
pub mod GoOn
pub mod Resume
pub mod Alike

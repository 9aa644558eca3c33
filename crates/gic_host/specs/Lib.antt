pub use Rattle.gic_report.specs as GicReport
pub use Rattle.scn_read.specs as ScnRead
pub mod Link
pub mod State
pub mod Text
pub mod Good
pub mod Access
pub mod Form
pub mod Reading
pub mod Laws

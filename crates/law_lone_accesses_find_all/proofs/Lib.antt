pub use Rattle.law_late_ones_leave.proofs.CoreProper
pub use Rattle.law_accesses_show_home.proofs as LawAccessesShowHome
pub use Rattle.law_late_ones_leave.proofs.LawCoreIsHistory
pub use Rattle.law_late_ones_leave.proofs as LawLateOnesLeave
pub use Rattle.law_late_ones_leave.proofs.LawRegistersStand
pub use Rattle.law_late_ones_leave.proofs.LawScansMissNone
pub use Rattle.law_late_ones_leave.proofs.PortCore
pub mod HereLemmas
pub mod EaseRuns
pub mod AskLemmas
pub mod LoneLemmas
pub mod LoneRuns
pub mod WorkedLemmas

pub use Rattle.law_scans_miss_none.proofs.CoreProper
pub use Rattle.law_scans_miss_none.proofs.IdealGuests
pub use Rattle.law_scans_miss_none.proofs.LawCoreIsHistory
pub use Rattle.law_scans_miss_none.proofs.LawHistories
pub use Rattle.law_scans_miss_none.proofs.LawRegistersStand
pub use Rattle.law_scans_miss_none.proofs as LawScansMissNone
pub use Rattle.law_scans_miss_none.proofs.PortCore
pub mod EndedLemmas
pub mod LeavingLemmas
pub mod StayLemmas
pub mod LateAccess
pub mod PollLemmas
pub mod LateDebts
pub mod HistoryLemmas
pub mod LateRuns
pub mod EndRuns
pub mod WorkedRuns

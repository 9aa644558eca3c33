pub use Rattle.law_lone_accesses_find_all.proofs.CoreProper
pub use Rattle.law_lone_calls_are_eager.proofs.GicBase
pub use Rattle.law_lone_calls_are_eager.proofs.GicCall
pub use Rattle.law_lone_calls_are_eager.proofs.GicHistory
pub use Rattle.law_lone_calls_are_eager.proofs.GicOpen
pub use Rattle.law_lone_accesses_find_all.proofs.LawAccessesShowHome
pub use Rattle.law_lone_accesses_find_all.proofs.LawCoreIsHistory
pub use Rattle.law_lone_calls_are_eager.proofs.LawEagerIsHistory
pub use Rattle.law_lone_calls_are_eager.proofs.LawHistories
pub use Rattle.law_lone_calls_are_eager.proofs.LawHomeCommutes
pub use Rattle.law_lone_accesses_find_all.proofs.LawLateOnesLeave
pub use Rattle.law_lone_accesses_find_all.proofs as LawLoneAccessesFindAll
pub use Rattle.law_lone_calls_are_eager.proofs as LawLoneCallsAreEager
pub use Rattle.law_lone_accesses_find_all.proofs.LawRegistersStand
pub use Rattle.law_lone_accesses_find_all.proofs.LawScansMissNone
pub use Rattle.law_lone_accesses_find_all.proofs.PortCore
pub use Rattle.law_lone_calls_are_eager.proofs.VcpuRefill
pub mod QuietLemmas
pub mod PartLemmas
pub mod EndsLemmas
pub mod AccessRuns
pub mod AloneRuns
pub mod WantLemmas
pub mod AlongRuns
pub mod ReadyRuns
pub mod ShowRuns
pub mod SerialRuns
pub mod WorkedLemmas

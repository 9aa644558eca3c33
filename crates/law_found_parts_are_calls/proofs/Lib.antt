pub use Rattle.pe_mem.proofs.CoreProper
pub use Rattle.law_serial_is_eager.proofs.GicCall
pub use Rattle.pe_mem.proofs.ItsExec
pub use Rattle.law_serial_is_eager.proofs.LawCoreIsHistory
pub use Rattle.law_unmapped_lpis.proofs.LawHistories
pub use Rattle.law_serial_is_eager.proofs.LawScansMissNone
pub use Rattle.law_serial_is_eager.proofs as LawSerialIsEager
pub use Rattle.law_unmapped_lpis.proofs as LawUnmappedLpis
pub use Rattle.pe_mem.proofs as PeMem
pub use Rattle.pe_mem.proofs.PortCore
pub mod SteadyLemmas
pub mod HereRuns
pub mod TurnRuns
pub mod WindowRuns
pub mod TurnCalls
pub mod BegunRuns
pub mod LookRuns
pub mod PostCalls
pub mod NoneRuns
pub mod FirstRuns
pub mod CommandRuns
pub mod EndRuns
pub mod EagerRuns
pub mod WorkedLemmas
pub mod WorkedCloses
pub mod WorkedWrites
pub mod WorkedCommands

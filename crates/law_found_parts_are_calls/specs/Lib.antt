pub use Rattle.law_unmapped_lpis.specs.Calls
pub use Rattle.pe_mem.specs.Core
pub use Rattle.law_unmapped_lpis.specs.Histories
pub use Rattle.pe_mem.specs.Lists
pub use Rattle.law_unmapped_lpis.specs.Words
pub use Rattle.law_unmapped_lpis.specs.GicIdeal
pub use Rattle.law_unmapped_lpis.specs.IdealGuests
pub use Rattle.pe_mem.specs.ItsExec
pub use Rattle.law_serial_is_eager.specs.LawCoreIsHistory
pub use Rattle.law_unmapped_lpis.specs.LawEagerIsHistory
pub use Rattle.law_serial_is_eager.specs.LawLateOnesLeave
pub use Rattle.law_serial_is_eager.specs.LawLoneAccessesFindAll
pub use Rattle.law_unmapped_lpis.specs.LawLoneCallsAreEager
pub use Rattle.law_serial_is_eager.specs as LawSerialIsEager
pub use Rattle.law_unmapped_lpis.specs as LawUnmappedLpis
pub use Rattle.pe_mem.specs as PeMem
pub mod Found
pub mod Worked
pub mod WorkedCommand

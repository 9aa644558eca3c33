pub use Rattle.pe_mem.proofs.ItsExec
pub use Rattle.pe_mem.proofs as PeMem
pub mod ChangeLemmas
pub mod StoredLemmas
pub mod MakesLemmas
pub mod BeforeLemmas
pub mod RegisterLemmas
pub mod WriteLemmas
pub mod ReadLemmas
pub mod AccessLemmas

pub use Rattle.pe_its.proofs.ItsExec
pub use Rattle.pe_icc.proofs as PeIcc
pub use Rattle.pe_icc.proofs.PeLoop
pub use Rattle.pe_its.proofs.PeMem
pub mod AboutLemmas
pub mod FoundLemmas
pub mod RoundLemmas

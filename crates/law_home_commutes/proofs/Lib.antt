pub use Rattle.law_histories.proofs.GicBase
pub use Rattle.law_histories.proofs.GicCall
pub use Rattle.law_histories.proofs.GicFrame
pub use Rattle.law_histories.proofs.GicHistory
pub use Rattle.law_histories.proofs.GicOpen
pub use Rattle.law_histories.proofs.GicPrio
pub use Rattle.law_histories.proofs.IdealGuests
pub use Rattle.law_histories.proofs.ItsTab
pub use Rattle.law_histories.proofs as LawHistories
pub mod SpotLemmas
pub mod MoveLemmas
pub mod HomeLemmas
pub mod EventLemmas
pub mod CpuLemmas
pub mod AccessLemmas
pub mod HomeLaws
pub mod WorkedLemmas

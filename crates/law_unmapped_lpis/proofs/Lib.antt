pub use Rattle.law_lone_calls_are_eager.proofs.GicHistory
pub use Rattle.law_lone_calls_are_eager.proofs.IdealGuests
pub use Rattle.law_lone_calls_are_eager.proofs.ItsTab
pub use Rattle.law_lone_calls_are_eager.proofs.LawHistories
pub use Rattle.law_lone_calls_are_eager.proofs.LawHomeCommutes
pub use Rattle.law_lone_calls_are_eager.proofs as LawLoneCallsAreEager
pub mod PartLemmas
pub mod MapsLemmas
pub mod ListLemmas
pub mod CommandLemmas
pub mod CommandLaws
pub mod EventLemmas
pub mod CalmLemmas
pub mod OperationLaws
pub mod WorkedLemmas

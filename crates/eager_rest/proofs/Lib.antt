pub use Rattle.scn_base.proofs as ScnBase
pub use Rattle.saved_check.proofs as SavedCheck
pub use Rattle.law_saves_go_on.proofs as LawSavesGoOn
pub mod ToldLemmas

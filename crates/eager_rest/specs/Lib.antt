pub use Rattle.saved_check.specs as SavedCheck
pub use Rattle.law_saves_go_on.specs as LawSavesGoOn

pub use Rattle.run_seq.specs as RunSeq
pub use Rattle.eager_rest.specs.LawSavesGoOn.SavedTake
pub use Rattle.eager_rest.specs.LawSavesGoOn as SavesGoOn

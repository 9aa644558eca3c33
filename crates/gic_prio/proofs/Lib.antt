pub mod FirstLemmas
pub mod LevelLemmas
pub mod InterfaceLemmas
pub mod EndLemmas
pub mod AccessLemmas
pub mod SetLemmas
pub mod AnswerLemmas
pub mod EntryLemmas

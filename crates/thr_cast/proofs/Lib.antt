pub mod OkLemmas
pub mod SplitLemmas
pub mod CastLemmas
pub mod ComingLemmas
pub mod WorkerLemmas
pub mod NameLemmas
pub mod AnswerLemmas
pub mod BackLemmas

pub mod NoteLemmas
pub mod PlayLemmas
pub mod AdvanceLemmas
pub mod LoopLemmas
pub mod TellLemmas
pub mod StepLemmas
pub mod CheckLemmas

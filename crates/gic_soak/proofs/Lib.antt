pub mod GoodLemmas
pub mod MadeLemmas

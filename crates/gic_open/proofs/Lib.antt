pub mod KeyLemmas
pub mod OpeningLemmas
pub mod RangeLemmas

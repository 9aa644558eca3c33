pub mod NameLemmas
pub mod KeyLemmas

pub mod ListLemmas
pub mod MemoryLemmas
pub mod WantedLemmas
pub mod FewLemmas

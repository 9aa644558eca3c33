pub mod TestLemmas
pub mod PartLemmas
pub mod LineLemmas
pub mod PlaceLemmas
pub mod JoinLemmas

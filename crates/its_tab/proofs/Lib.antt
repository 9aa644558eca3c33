pub use Rattle.sorted_pairs.proofs.MapLemmas
pub mod TableLemmas
pub mod SearchLemmas
pub mod AfterLemmas
pub mod IndexLemmas
pub mod ListLemmas
pub mod CarryLemmas
pub mod KeptLemmas

pub mod OpenLemmas
pub mod PostLemmas

pub mod TextLemmas
pub mod NumberLemmas
pub mod BackLemmas
pub mod ReadLemmas
pub mod RestoreLemmas

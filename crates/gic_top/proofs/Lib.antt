pub mod NumberLemmas
pub mod ReplyLemmas

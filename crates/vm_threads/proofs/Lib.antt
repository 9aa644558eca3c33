pub mod TimerLemmas
pub mod SameLemmas
pub mod RestLemmas

pub mod GuestLemmas
pub mod PlainLemmas

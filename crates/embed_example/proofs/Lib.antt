pub mod TurnLemmas
pub mod DoneLemmas

pub mod ExcuseLemmas
pub mod ReadyLemmas
pub mod ShownLemmas
pub mod TrackLemmas

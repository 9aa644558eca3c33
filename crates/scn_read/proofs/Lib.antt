pub mod GoodLemmas
pub mod GuestLemmas
pub mod ListLemmas
pub mod NarrowLemmas
pub mod ReadLemmas
pub mod StepLemmas

pub mod EventLemmas
pub mod NameLemmas
pub mod OwnerLemmas
pub mod ReadLemmas
pub mod TouchLemmas

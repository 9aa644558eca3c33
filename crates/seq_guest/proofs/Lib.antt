pub use Rattle.law_entries_are_plans.proofs as LawEntriesArePlans
pub use Rattle.pe_place.proofs as PePlace
pub use Rattle.port_seq.proofs as PortSeq
pub mod SearchLemmas
pub mod LoneLemmas
pub mod SeatLemmas
pub mod GuestLemmas
pub mod PlacesLemmas
pub mod KickLemmas
pub mod ShowLemmas
pub mod OpeningLemmas
pub mod CpusLemmas
pub mod OperateLemmas
pub mod DeviceLemmas

pub use Rattle.law_entries_are_plans.specs as LawEntriesArePlans
pub use Rattle.pe_place.specs as PePlace
pub use Rattle.port_seq.specs as PortSeq
pub mod Guest
pub mod Operation

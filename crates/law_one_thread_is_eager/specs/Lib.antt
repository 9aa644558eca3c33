pub use Rattle.law_found_parts_are_calls.specs.LawEagerIsHistory
pub use Rattle.law_found_parts_are_calls.specs.LawLoneCallsAreEager
pub use Rattle.law_found_parts_are_calls.specs.LawSerialIsEager
pub use Rattle.seq_guest.specs.PePlace
pub use Rattle.seq_guest.specs.PortSeq
pub use Rattle.seq_guest.specs as SeqGuest
pub mod Done
pub mod Laws

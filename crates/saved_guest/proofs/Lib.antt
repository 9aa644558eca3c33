pub use Rattle.ideal_guest.proofs as IdealGuests
pub mod RecLemmas
pub mod WordLemmas
pub mod LawLemmas

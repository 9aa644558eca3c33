pub use Rattle.seq_guest.proofs.PortSeq
pub use Rattle.seq_guest.proofs as SeqGuest
pub mod MomentLemmas
pub mod SeenLemmas
pub mod FollowLemmas
pub mod ProperLemmas
pub mod EaseLemmas
pub mod OpeningLemmas
pub mod EagerLemmas
pub mod DoneLemmas
pub mod ShowLemmas
pub mod DoneLaws

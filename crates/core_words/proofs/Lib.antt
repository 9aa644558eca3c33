pub use Rattle.ideal_guest.proofs.GicBase
pub use Rattle.ideal_guest.proofs.GicBits
pub use Rattle.ideal_guest.proofs.GicCall
pub use Rattle.ideal_guest.proofs.GicFrame
pub use Rattle.ideal_guest.proofs.GicOpen
pub use Rattle.ideal_guest.proofs.GicPrio
pub use Rattle.ideal_guest.proofs.GicWord
pub use Rattle.ideal_guest.proofs.ItsTab
pub use Rattle.ideal_guest.proofs as IdealGuests
pub mod PlaceLemmas

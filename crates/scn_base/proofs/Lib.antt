pub use Rattle.gic_guest.proofs.GicBase
pub mod GoodLemmas
pub mod PesLemmas
pub mod StandingLemmas
pub mod StepLemmas

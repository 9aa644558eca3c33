pub use Rattle.gic_ideal.proofs as GicIdeal
pub mod SplitLemmas
pub mod FaultLemmas
pub mod GoOnLemmas

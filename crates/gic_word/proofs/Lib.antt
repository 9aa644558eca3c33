pub use Rattle.gic_base.proofs as GicBase
pub use Rattle.gic_bits.proofs as GicBits
pub mod WordLemmas
pub mod CauseLemmas
pub mod ValidLemmas
pub mod ReleaseLemmas
pub mod WantLemmas

pub use Rattle.gic_frame.proofs as GicFrame
pub mod MapLemmas

pub use Rattle.gic_save.proofs as GicSave
pub mod KindLemmas
pub mod StepLemmas
pub mod BackLemmas

pub use Rattle.ideal_guest.proofs as IdealGuests
pub use Rattle.vcpu_refill.proofs as VcpuRefill
pub mod StateLemmas
pub mod EffectLemmas
pub mod SoundEvents
pub mod DeedLemmas
pub mod LawLemmas
pub mod AnswerLemmas
pub mod StepLemmas

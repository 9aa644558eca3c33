pub use Rattle.law_ends_agree.specs as LawEndsAgree
pub use Rattle.law_ends_agree.specs.Calls
pub use Rattle.law_ends_agree.specs.GicIdeal
pub use Rattle.law_one_thread_is_eager.specs.LawEagerIsHistory
pub use Rattle.law_one_thread_is_eager.specs.PortSeq
pub mod StepCalls
pub mod Agenda
pub mod Steps
pub mod Machine
pub mod Opened
pub mod Acts
pub mod Room
pub mod Run

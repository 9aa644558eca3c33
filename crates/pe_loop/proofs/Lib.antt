pub use Rattle.port_call.proofs.CoreProper
pub use Rattle.vcpu_state.proofs.GicBase
pub use Rattle.port_call.proofs.GicCall
pub use Rattle.port_call.proofs.GicIcv
pub use Rattle.vcpu_state.proofs.GicWord
pub use Rattle.port_call.proofs as PortCall
pub use Rattle.port_call.proofs.PortCore
pub use Rattle.port_call.proofs.VcpuRefill
pub use Rattle.vcpu_state.proofs as VcpuState
pub mod AtLemmas
pub mod ReleaseLemmas
pub mod LeaveLemmas
pub mod FirstLemmas
pub mod IndexLemmas
pub mod CountLemmas
pub mod StepLemmas
pub mod MoveLemmas
pub mod JoinLemmas
pub mod LookLemmas
pub mod MarkLemmas
pub mod RoundLemmas
pub mod ClaimLemmas
pub mod ReachLemmas
pub mod ChosenLemmas
pub mod PlanLemmas
pub mod StoreLemmas
pub mod ClaimingLemmas
pub mod EnterLemmas

pub use Rattle.gic_icv.proofs as GicIcv
pub use Rattle.gic_icv.proofs.GicWord
pub use Rattle.vcpu_refill.proofs as VcpuRefill

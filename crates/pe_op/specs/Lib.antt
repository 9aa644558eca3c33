pub use Rattle.pe_its.specs.ItsExec
pub use Rattle.pe_icc.specs as PeIcc
pub use Rattle.pe_icc.specs.PeLoop
pub use Rattle.pe_its.specs.PeMem
pub use Rattle.pe_icc.specs.VcpuState
pub mod Operation

pub use Rattle.gic_msi.specs.Core
pub use Rattle.gic_msi.specs.DevPort
pub use Rattle.gic_msi.specs as GicMsi
pub use Rattle.law_serial_is_eager.specs.LawEagerIsHistory
pub use Rattle.pe_op.specs.PeIcc
pub use Rattle.pe_op.specs.PeLoop
pub use Rattle.pe_op.specs.PeMem
pub use Rattle.pe_op.specs as PeOp
pub use Rattle.gic_msi.specs.PortCall
pub use Rattle.pe_op.specs.VcpuState
pub mod Parts
pub mod Calls
pub mod Place
pub mod Moves
pub mod Device

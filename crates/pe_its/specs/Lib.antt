pub use Rattle.pe_mem.specs.ItsExec
pub use Rattle.pe_mem.specs as PeMem
pub mod Change
pub mod Read
pub mod Register
pub mod Write

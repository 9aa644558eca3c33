pub use Rattle.scn_base.proofs.GicBase
pub use Rattle.port_ops.proofs.PortCore
pub mod SeqLemmas
pub mod ToldLemmas
pub mod GuestsLemmas
pub mod KeptLemmas

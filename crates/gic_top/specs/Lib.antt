pub use Rattle.gic_host.specs.GicReport.GicIo
pub use Rattle.gic_host.specs.ScnRead.ScnBase
pub mod Command
pub mod Tool
pub mod Reply

pub use Rattle.gic_io.specs as GicIo
pub use Rattle.gic_soak.specs as GicSoak
pub mod Text
pub mod Rest
pub mod Soak

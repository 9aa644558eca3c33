pub use Rattle.gic_ich.specs as GicIch
pub mod Order
pub mod Ranking
pub mod Chooser
pub mod Plan
pub mod Laws

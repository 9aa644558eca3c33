pub use Rattle.scn_saved.specs as ScnSaved
pub mod Cell
pub mod Step
pub mod Image

pub use Rattle.saved_guest.specs as SavedGuest
pub use Rattle.scn_read.specs as ScnRead
pub use Rattle.gic_save.specs as GicSave
pub mod Kind
pub mod Reading
pub mod Back

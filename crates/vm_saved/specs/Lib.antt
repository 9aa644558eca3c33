pub use Rattle.gic_vm.specs as GicVm
pub use Rattle.image_read.specs as ImageRead
pub use Rattle.saved_take.specs as SavedTake
pub mod Image
pub mod Reading
pub mod Calls
pub mod Back

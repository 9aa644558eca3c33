pub use Rattle.gic_resume.specs as GicResume
pub mod Left
pub mod Fits
pub mod Tells
pub mod Read

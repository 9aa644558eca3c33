pub use Rattle.eager_rest.specs as EagerRest
pub use Rattle.gic_resume.specs as GicResume
pub mod Valid

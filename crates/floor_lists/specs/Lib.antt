pub use Rattle.gic_icv.specs.GicWord
pub mod Lists

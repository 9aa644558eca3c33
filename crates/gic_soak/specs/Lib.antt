pub use Rattle.scn_base.specs.GicGuest
pub use Rattle.scn_base.specs as ScnBase
pub mod Draw
pub mod Generated

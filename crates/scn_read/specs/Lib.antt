pub use Rattle.scn_base.specs.GicGuest
pub use Rattle.json_field.specs as JsonField
pub use Rattle.scn_base.specs as ScnBase
pub mod Preset
pub mod Guest
pub mod Form
pub mod Step
pub mod Narrow
pub mod Reading
pub mod Shown

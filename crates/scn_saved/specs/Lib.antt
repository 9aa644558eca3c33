pub use Rattle.scn_base.specs as ScnBase
pub use Rattle.scn_base.specs.Words
pub use Rattle.scn_base.specs.GicBase
pub use Rattle.scn_base.specs.GicGuest
pub use Rattle.scn_base.specs.GicRam
pub use Rattle.scn_base.specs.GicWord
pub mod Name
pub mod Read

pub use Rattle.core_proper.specs.Calls
pub use Rattle.core_proper.specs.Histories
pub use Rattle.core_proper.specs.Lists
pub use Rattle.core_proper.specs.Registers
pub use Rattle.core_proper.specs.Words
pub use Rattle.core_proper.specs as CoreProper
pub use Rattle.core_proper.specs.GicBase
pub use Rattle.core_proper.specs.GicCall
pub use Rattle.core_proper.specs.GicDmap
pub use Rattle.core_proper.specs.GicHistory
pub use Rattle.core_proper.specs.GicImap
pub use Rattle.core_proper.specs.GicRmap
pub use Rattle.core_proper.specs.GicWord
pub use Rattle.core_proper.specs.ItsCmd
pub mod Core

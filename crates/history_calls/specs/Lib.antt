pub use Rattle.legal_lists.specs.Calls
pub use Rattle.legal_lists.specs.Histories
pub use Rattle.legal_lists.specs.Registers
pub use Rattle.legal_lists.specs.Words
pub use Rattle.legal_lists.specs.GicCall
pub use Rattle.legal_lists.specs.GicDmap
pub use Rattle.legal_lists.specs.GicImap
pub use Rattle.legal_lists.specs.GicRmap
pub use Rattle.legal_lists.specs as LegalLists
pub mod Found
pub mod Exact
pub mod Counted

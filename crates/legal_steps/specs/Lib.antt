pub use Rattle.legal_lists.specs.Calls
pub use Rattle.legal_lists.specs.Histories
pub use Rattle.legal_lists.specs.Registers
pub use Rattle.legal_lists.specs.Words
pub use Rattle.legal_lists.specs.GicCall
pub use Rattle.legal_lists.specs as LegalLists
pub mod Waiting
pub mod Step
pub mod Laws

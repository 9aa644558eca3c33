pub use Rattle.legal_steps.specs.Calls
pub use Rattle.legal_steps.specs.Histories
pub use Rattle.legal_steps.specs.Words
pub use Rattle.legal_steps.specs.GicCall
pub use Rattle.legal_steps.specs.LegalLists
pub use Rattle.legal_steps.specs.Registers
pub use Rattle.legal_steps.specs as LegalSteps
pub use Rattle.history_play.specs as HistoryPlay
pub mod Passing
pub mod Pieces
pub mod Answering
pub mod Board
pub mod Laws

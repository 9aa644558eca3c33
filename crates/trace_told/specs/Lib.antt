pub use Rattle.legal_play.specs.Calls
pub use Rattle.legal_play.specs.Histories
pub use Rattle.legal_play.specs.Registers
pub use Rattle.legal_play.specs.Words
pub use Rattle.legal_play.specs.GicCall
pub use Rattle.legal_play.specs.LegalLists
pub use Rattle.legal_play.specs as LegalPlay
pub use Rattle.trace_read.specs as TraceRead
pub mod Given
pub mod Told
pub mod Untold
pub mod Verdict
pub mod Laws
pub mod Worked

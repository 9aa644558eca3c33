pub use Rattle.history_calls.specs as HistoryCalls
pub use Rattle.history_check.specs as HistoryCheck
pub mod Coming
pub mod Kept
pub mod Laws
pub mod Played

pub use Rattle.trace_told.specs as TraceTold
pub use Rattle.trace_told.specs.TraceRead
pub use Rattle.trace_told.specs.Histories
pub mod Notes
pub mod Play

pub mod RestRuns
pub mod SignalledRuns
pub mod LookRuns

pub mod Rest
pub mod Timer
pub mod Waking

pub mod Pending
pub mod Index

pub mod Run
pub mod Returned

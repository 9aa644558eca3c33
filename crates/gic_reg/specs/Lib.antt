pub mod Router
pub mod Condition
pub mod Touch

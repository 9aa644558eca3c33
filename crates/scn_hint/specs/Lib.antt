pub mod Field
pub mod Table
pub mod Limit
pub mod Step
pub mod Hint
pub mod Host
pub mod Law

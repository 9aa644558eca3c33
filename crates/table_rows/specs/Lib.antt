pub mod Rows
pub mod Row

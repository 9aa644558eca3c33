pub mod Access
pub mod Bases
pub mod Memory
pub mod Wants

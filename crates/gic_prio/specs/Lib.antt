pub mod Levels
pub mod Priority
pub mod Delivery
pub mod Signal
pub mod Registers
pub mod Access
pub mod Interface
pub mod Laws

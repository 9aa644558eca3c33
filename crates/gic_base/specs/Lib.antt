pub mod Shape
pub mod Interrupt
pub mod Icc

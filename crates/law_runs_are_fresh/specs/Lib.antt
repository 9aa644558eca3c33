pub mod Fresh
pub mod First
pub mod SoFar
pub mod Worked

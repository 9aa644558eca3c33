pub mod Stay
pub mod UpToDate
pub mod Worked
pub mod Done

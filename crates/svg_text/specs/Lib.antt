pub mod Name
pub mod Tree
pub mod Content

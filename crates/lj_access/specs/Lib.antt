pub mod UserLists
pub mod UserRows
pub mod Directories
pub mod Limits
pub mod Passing

pub mod Exits
pub mod Limits

pub mod Names
pub mod Tokens
pub mod Words
pub mod Worked
pub mod Limits

pub mod Noted
pub mod Homes

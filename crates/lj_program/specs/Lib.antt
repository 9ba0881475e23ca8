pub mod Outcomes
pub mod Conversations
pub mod NamedUsers
pub mod Printed
pub mod Limits
pub mod Admissions
pub mod Histories
pub mod Homes

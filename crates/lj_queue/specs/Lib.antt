pub mod OpenTask
pub mod Balance
pub mod PoolPass
pub mod ResultList
pub mod Mailboxes
pub mod Settling
pub mod Limits
pub mod NoRoom

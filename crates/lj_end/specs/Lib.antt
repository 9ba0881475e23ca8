pub mod Seen
pub mod LinkedEnds
pub mod RefusedPosts
pub mod InlinePool
pub mod Accounts
pub mod Waking
pub mod TaskLists
pub mod Limits

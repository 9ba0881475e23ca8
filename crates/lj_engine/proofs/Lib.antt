pub mod Numbers
pub mod Gathering
pub mod Sessions
pub mod Gathered
pub mod Tiles
pub mod Begun
pub mod Outcomes
pub mod Answered
pub mod Going
pub mod Ending
pub mod Rested
pub mod Dialogues
pub mod Handing
pub mod ItemEnds
pub mod Flushing
pub mod Quiet
mod AllRead
pub mod Posts

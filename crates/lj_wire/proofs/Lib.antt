pub mod ReplyTexts
pub mod ReplyLines
pub mod Splitting
pub mod Marks
mod Turns
mod Alone
mod Existence
pub mod Progressing
mod Displacements
mod Lines
mod Counts
mod Parsing
mod Bare
pub mod Filling
mod Bodies
pub mod Known
pub mod Buffers
pub mod Taking
pub mod Passing
pub mod Wholes
pub mod Greeting
pub mod Handed
pub mod LineCounts

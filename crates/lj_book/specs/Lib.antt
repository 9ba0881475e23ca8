pub mod Picks
pub mod KeyStates
pub mod Book
pub mod Boxes
pub mod Refused
pub mod Limits

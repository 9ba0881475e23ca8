pub mod Moves
pub mod Pops
pub mod Settling

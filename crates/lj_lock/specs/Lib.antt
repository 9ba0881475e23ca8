pub mod EndBoxes
pub mod LockLinks
pub mod PoolStates
pub mod Copies
pub mod Limits

pub mod Quotients
pub mod Sizes
pub mod Cells
pub mod Signs

pub mod Answered
pub mod Grammar
pub mod Leading
pub mod Rounding
pub mod WholeNumbers

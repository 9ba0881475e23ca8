pub mod OverTexts
pub mod Limits

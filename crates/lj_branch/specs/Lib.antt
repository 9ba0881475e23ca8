pub mod Named
pub mod Saved
pub mod FaultTexts

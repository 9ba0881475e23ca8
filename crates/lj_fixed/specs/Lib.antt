pub mod Decimal
pub mod Numbers
pub mod FaultTexts
pub mod Millionths
pub mod WordParts
pub mod StandsFor
pub mod Worked
pub mod Limits

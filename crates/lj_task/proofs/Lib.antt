pub mod Opposites
pub mod SameLemmas
pub mod FirstSums

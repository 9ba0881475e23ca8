pub mod NameLemmas
pub mod WordLaws
pub mod SameLemmas

pub mod Lent
pub mod Events
pub mod Behind
pub mod Visits
pub mod VisitLaws

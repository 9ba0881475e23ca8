pub mod RowLemmas
pub mod UserLemmas
pub mod Passing

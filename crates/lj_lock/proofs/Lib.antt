pub mod EndBoxLemmas
pub mod CopyLemmas

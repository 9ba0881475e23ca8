pub mod LineLaws
pub mod ReaderLaws
pub mod FrameLaws
pub mod FrameStands
pub mod ReadingLaws
pub mod ReadLaws
pub mod Pairs

pub mod ArcLemmas
pub mod RingLemmas
pub mod ScaleLemmas
pub mod MixLemmas
pub mod LaneLemmas
pub mod BinLemmas

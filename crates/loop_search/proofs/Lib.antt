pub mod Positions
pub mod WholeLemmas
pub mod WayLemmas
pub mod LoopLemmas
pub mod BoundsLemmas

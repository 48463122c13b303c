pub mod ListLemmas
pub mod SetLemmas
pub mod KindLemmas
pub mod LoopLemmas
pub mod FindingLemmas
pub mod RowLemmas
pub mod UnionLemmas

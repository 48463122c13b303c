pub mod DifferLemmas
pub mod KeyLemmas
pub mod SameLemmas
pub mod OwnLemmas
pub mod UsedLemmas
pub mod GrowLemmas
pub mod SweepLemmas
pub mod ReachLemmas

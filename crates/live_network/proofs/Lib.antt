pub mod AlikeLemmas
pub mod TouchedLemmas
pub mod ClearLemmas
pub mod ReplaceLemmas
pub mod PutLemmas
pub mod LiveLemmas
pub mod NetworkLemmas
pub mod CopyLemmas

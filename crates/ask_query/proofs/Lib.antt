pub mod ReachingLemmas
pub mod AnswerLemmas
pub mod SharedLemmas
pub mod SlotLemmas
pub mod LeafLemmas
pub mod ReadingLemmas
pub mod FieldLemmas
pub mod DeviceLemmas

pub mod PortLemmas
pub mod FieldLemmas
pub mod TestLemmas
pub mod EntryLemmas
pub mod ListLemmas
pub mod NumberLemmas

pub mod NumberLemmas
pub mod ListLemmas
pub mod OrderLemmas
pub mod RowLemmas
pub mod SlotLemmas

pub mod RowLemmas
pub mod WalkableLemmas
pub mod IngressLemmas
pub mod SectionLemmas
pub mod ClassLemmas

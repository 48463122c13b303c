pub mod FindLemmas
pub mod FormLemmas

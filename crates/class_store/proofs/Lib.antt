pub mod Kept
pub mod WindowLemmas
pub mod ClassLemmas

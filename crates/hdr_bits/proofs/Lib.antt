pub mod Numbers
pub mod Masks
pub mod CubeLemmas
pub mod ListLemmas
pub mod OneList

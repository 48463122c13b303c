pub mod Pairs
pub mod Reading
pub mod ListLemmas
pub mod Nets
pub mod Asked
pub mod ViewLemmas

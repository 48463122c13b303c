pub mod Pairs
pub mod Functions
pub mod Slots
pub mod Work

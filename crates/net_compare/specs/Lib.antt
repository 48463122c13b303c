pub mod Networks
pub mod Slots
pub mod Walkable
pub mod Rows
pub mod Classes
pub mod Differing

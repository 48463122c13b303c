pub mod Owned
pub mod Linked
pub mod Shown
pub mod Walked

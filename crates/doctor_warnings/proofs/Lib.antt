pub mod Trimmed
pub mod Readings
pub mod Steps
pub mod Items
pub mod OneFile
pub mod Beside
pub mod Counts

pub mod Lines
pub mod Stops
pub mod Causes
pub mod Steps
pub mod Accepted
pub mod Endings

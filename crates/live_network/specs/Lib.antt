pub mod Shown
pub mod Replaced
pub mod Touched
pub mod Clearing
pub mod Live
pub mod Near
pub mod Putting
pub mod Copied

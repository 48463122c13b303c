pub mod Steps
pub mod Failing
pub mod Touched

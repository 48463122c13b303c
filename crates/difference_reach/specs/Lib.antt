pub mod Differing
pub mod Reaches
pub mod Steps

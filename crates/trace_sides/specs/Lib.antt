pub mod Indented
pub mod Sides

pub mod Lengths
pub mod Farther

pub mod Variants
pub mod Kept

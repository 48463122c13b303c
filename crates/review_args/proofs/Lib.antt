pub mod Prefixes
pub mod Digits
pub mod Walk
pub mod Asked

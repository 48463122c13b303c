pub mod Translated
pub mod Differences
pub mod Devices
pub mod Pairs

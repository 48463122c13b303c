pub mod Draws
pub mod Devices
pub mod Networks

pub mod Adding
pub mod Parts
pub mod Leaving
pub mod Seats
pub mod Places
pub mod Devices

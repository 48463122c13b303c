pub mod Reaching
pub mod Breaking
pub mod Slots
pub mod Shared
pub mod Refusals
pub mod Devices
pub mod Fields
pub mod Reading

pub mod Words
pub mod Commands
pub mod LookAlikes
pub mod Naming
pub mod Idle

pub mod Keys
pub mod Reading
pub mod Effects
pub mod NameOrder
pub mod Finds
pub mod LeastShared
pub mod TableSize

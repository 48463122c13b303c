pub mod Json
pub mod Chunks

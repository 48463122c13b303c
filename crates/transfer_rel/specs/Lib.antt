pub mod CubeMoves
pub mod Entries
pub mod Halves
pub mod Stages

pub mod Pairs
pub mod Rest
pub mod Pieces
pub mod Stamps
pub mod OnCubes

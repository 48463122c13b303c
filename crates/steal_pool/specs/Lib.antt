pub mod Paths
pub mod Lane
pub mod Seats
pub mod Work
pub mod Pieces
pub mod Pushes
pub mod Roots

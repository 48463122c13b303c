pub mod Pieces
pub mod PlainRows
pub mod Laws
pub mod Nodes

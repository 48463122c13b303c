pub mod MoveOrder
pub mod Transfers

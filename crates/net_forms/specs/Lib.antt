pub mod Along
pub mod Forms
pub mod Known
pub mod Networks
pub mod Pairs
pub mod Rules
pub mod Seats
pub mod Worlds

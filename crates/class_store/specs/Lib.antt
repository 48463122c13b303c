pub mod Windows
pub mod Classes
pub mod Offers

pub mod EntryNames
pub mod Listings
pub mod Names
pub mod Stored
pub mod Taken

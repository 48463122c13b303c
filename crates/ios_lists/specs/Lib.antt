pub mod Refused
pub mod Entries
pub mod ListCommands

pub mod Groups
pub mod Drafts
pub mod Values
pub mod Meaning
pub mod Shown
pub mod Entries
pub mod Changes
pub mod Least

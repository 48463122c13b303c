pub mod Words
pub mod Edits
pub mod Job
pub mod Accepted

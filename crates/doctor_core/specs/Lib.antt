pub mod Usage
pub mod Words
pub mod Folders
pub mod Stops
pub mod Job
pub mod Accepted

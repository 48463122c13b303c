pub mod Lines
pub mod Job
pub mod Accepted

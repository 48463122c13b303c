pub mod Words
pub mod Report
pub mod Taking
pub mod Job
pub mod Accepted

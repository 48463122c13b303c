pub mod Words
pub mod Changes
pub mod Window
pub mod RolloutText
pub mod Job
pub mod Accepted

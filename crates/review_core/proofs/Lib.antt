pub mod Accepted
pub mod Naming
pub mod Reports

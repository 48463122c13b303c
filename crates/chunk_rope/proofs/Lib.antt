pub mod Chains
pub mod Shared
pub mod Values
pub mod Links

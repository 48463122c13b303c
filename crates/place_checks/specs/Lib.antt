pub mod Findings
pub mod Nearest
pub mod Homes
pub mod Index
pub mod Sights
pub mod Strays
pub mod Ethernet

pub mod Findings
pub mod Held
pub mod Facing

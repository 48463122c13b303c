pub mod Findings
pub mod Sets

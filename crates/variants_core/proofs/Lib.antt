pub mod ReportLemmas
pub mod TakingLemmas
pub mod Accepted

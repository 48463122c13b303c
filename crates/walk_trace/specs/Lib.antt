pub mod Numbered
pub mod Traced
pub mod Keys
pub mod Kept
pub mod Outcomes
pub mod TraceText

pub mod AuditText
pub mod Words
pub mod Audits

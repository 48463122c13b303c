pub mod AuditLemmas
pub mod Endings

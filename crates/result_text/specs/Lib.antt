pub mod AnswerText
pub mod AuditText

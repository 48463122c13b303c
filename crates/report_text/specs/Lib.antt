pub mod FieldText
pub mod Parts
pub mod ReportText
pub mod Readings
pub mod Reports
pub mod Reading

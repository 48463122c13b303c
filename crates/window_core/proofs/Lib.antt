pub mod QuestionCount
pub mod SecondReading
pub mod ChangeLemmas
pub mod Accepted

pub mod Answers
pub mod Paired
pub mod ReadingLemmas
pub mod Asks

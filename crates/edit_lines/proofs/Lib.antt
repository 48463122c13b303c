pub mod ReadingLemmas
pub mod WordSizes

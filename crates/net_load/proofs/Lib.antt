pub mod Hosts
pub mod Steps
pub mod Listing
pub mod OneAnswer
pub mod Collected
pub mod TextLemmas
pub mod ReadingLemmas

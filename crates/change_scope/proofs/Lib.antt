pub mod SeatLemmas
pub mod MoveLemmas
pub mod GoLemmas
pub mod TurnLemmas
pub mod NamedLemmas
pub mod DifferenceLemmas
pub mod ScopeLemmas

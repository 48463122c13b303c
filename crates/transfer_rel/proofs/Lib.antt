pub mod StampLemmas
pub mod SetLemmas
pub mod LeaveLemmas
pub mod ArriveLemmas
pub mod ForwardLemmas
pub mod HalfLemmas
pub mod AnswerLemmas

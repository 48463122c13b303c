pub mod LikeLemmas

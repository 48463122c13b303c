pub mod EditLemmas
pub mod IngressCount
pub mod Accepted

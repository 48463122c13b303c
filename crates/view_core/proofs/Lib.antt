pub mod OwnNames
pub mod Reports
pub mod SameLines
pub mod Asked
pub mod IngressLemmas
pub mod TallyLemmas

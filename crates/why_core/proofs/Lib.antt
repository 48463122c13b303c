mod Steps
mod Accepted
mod CaseLemmas
mod Telling
mod LineLemmas
mod Naming

pub mod Firsts
pub mod Hosts
pub mod Lines

pub mod Refused
pub mod Interfaces
pub mod Routes
pub mod Translation
pub mod Tables
pub mod Banners

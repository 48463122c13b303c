pub mod Folders
pub mod Configs

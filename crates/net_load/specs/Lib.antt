pub mod Limits
pub mod Numbering
pub mod Folder
pub mod Loader
pub mod Texts

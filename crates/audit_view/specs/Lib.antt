pub mod Lists
pub mod Said
pub mod Audited
pub mod Shown
pub mod ShownText
pub mod ShownJson
pub mod Words
pub mod Views

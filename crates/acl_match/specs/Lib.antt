pub mod Cubes
pub mod Products
pub mod Ports
pub mod Lists
pub mod Numbers

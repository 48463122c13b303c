pub mod WholeNets
pub mod Looping
pub mod Bounds

pub mod BannerSteps
pub mod Sides

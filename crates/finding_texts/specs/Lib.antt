pub mod Shown
pub mod PlaceTexts
pub mod StrayTexts
pub mod ConfigTexts

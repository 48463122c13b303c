pub mod StepLemmas
pub mod AcceptedLemmas
pub mod EndingLemmas

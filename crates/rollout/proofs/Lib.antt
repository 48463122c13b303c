mod StepLemmas
mod TouchedLemmas
mod ChangeLemmas

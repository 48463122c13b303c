pub mod MaskLemmas
pub mod SplitLemmas
pub mod ValueLemmas
pub mod CutLemmas
pub mod RestLemmas
pub mod StampLemmas
pub mod OnCubeLemmas

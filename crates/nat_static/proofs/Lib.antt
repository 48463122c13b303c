pub mod SideLemmas
pub mod RuleLemmas
pub mod FixedLemmas
pub mod StampedLemmas

pub mod Runs
pub mod TokenLemmas
pub mod Boundaries
pub mod PlainLemmas
pub mod WordLemmas
pub mod ReadingLemmas
pub mod LongestLemmas
pub mod NumberLemmas

pub mod ReadLemmas
pub mod RepeatLemmas

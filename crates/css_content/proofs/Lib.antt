pub mod EntryLemmas
pub mod WholeLemmas

pub mod ElementLemmas
pub mod FamilyLemmas
pub mod IdLemmas
pub mod LineLemmas
pub mod WalkLemmas

pub mod CallLemmas
pub mod LeafLemmas
pub mod OwnerLemmas
pub mod WalkLemmas

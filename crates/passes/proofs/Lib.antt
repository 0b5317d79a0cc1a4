pub mod Conditions
pub mod EndLemmas
pub mod LookedLemmas
pub mod PassLemmas
pub mod TargetLemmas

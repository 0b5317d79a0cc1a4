pub mod BeginLemmas
pub mod LawLemmas
pub mod StartLemmas
pub mod TableLemmas

pub mod ListLemmas
pub mod UnitLemmas

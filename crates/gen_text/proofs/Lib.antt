pub mod TableLemmas
pub mod MarkLemmas
pub mod PartLemmas
pub mod OneLemmas
pub mod WordLemmas
pub mod OwnLemmas
pub mod ContentLemmas
pub mod TextLemmas

pub mod AskedLemmas
pub mod AssignedLemmas
pub mod ShownLemmas

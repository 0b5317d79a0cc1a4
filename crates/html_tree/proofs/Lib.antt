pub mod BuildLemmas
pub mod NumberLemmas
pub mod OpenedLemmas
pub mod OrderLemmas
pub mod ReadLemmas
pub mod ScopeLemmas
pub mod StateLemmas
pub mod StepLemmas
pub mod TextLemmas
pub mod TokenLemmas
mod TreeOrderLemmas
mod TreeLemmas
mod NameLemmas
pub mod KeptLemmas

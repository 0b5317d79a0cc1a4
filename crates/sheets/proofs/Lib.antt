pub mod PageLemmas
pub mod ReadLemmas
pub mod SheetLemmas

pub mod AreaLemmas
pub mod RangeLemmas
pub mod FaceLemmas

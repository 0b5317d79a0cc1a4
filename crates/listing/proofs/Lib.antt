pub mod Numbers
pub mod PlaceLemmas
pub mod Printing
pub mod RecordLemmas

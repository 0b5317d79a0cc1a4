pub mod Appended
pub mod Repeats
pub mod WordLemmas
pub mod ChapterLemmas

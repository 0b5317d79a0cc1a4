pub mod ArrowLemmas
pub mod Ends
pub mod ListLemmas
pub mod PieceLemmas
pub mod Places
pub mod TagLemmas
pub mod TextLen
pub mod Through

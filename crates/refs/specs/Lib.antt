pub mod Begins
pub mod Differences
pub mod Kept
pub mod Tables

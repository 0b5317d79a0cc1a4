pub mod Hyphenated
pub mod Known
pub mod Laws
pub mod Pass
pub mod Walk
pub mod Words

pub mod Classes
pub mod Tags
pub mod Pieces
pub mod Listed
pub mod Fields

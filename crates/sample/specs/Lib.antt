pub mod Draws
pub mod Html
pub mod Texts
pub mod Words

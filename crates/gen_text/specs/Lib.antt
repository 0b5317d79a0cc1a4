pub mod Table
pub mod Target
pub mod References
pub mod Parts
pub mod Own
pub mod Content
pub mod Texts

pub mod Columns
pub mod Laws
pub mod Near
pub mod Steps

pub mod Elements
pub mod Families
pub mod FamilyViews
pub mod IdleViews
pub mod Lines
pub mod Parts
pub mod Reading
pub mod Steps

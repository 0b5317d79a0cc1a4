pub mod Assigned
pub mod Laws
pub mod Shown
pub mod StringFields

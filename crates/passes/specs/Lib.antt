pub mod Conditions
pub mod Looked
pub mod Passes
pub mod Settles
pub mod Stops
pub mod Work

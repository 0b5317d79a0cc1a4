pub mod Areas
pub mod Placing
pub mod Texts
pub mod Chosen
pub mod Margins
pub mod Conditions

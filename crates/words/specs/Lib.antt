pub mod Grammar
pub mod Asked
pub mod Parsed
pub mod Statuses

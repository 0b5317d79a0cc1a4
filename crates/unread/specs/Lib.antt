pub mod Causes
pub mod Report
pub mod Run
pub mod Status

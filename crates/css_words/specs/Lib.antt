pub mod Input
pub mod Ahead
pub mod Parser
pub mod Repeat
pub mod Words
pub mod Table

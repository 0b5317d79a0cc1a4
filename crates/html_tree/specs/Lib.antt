pub mod Texts
pub mod Rules
pub mod Tree
pub mod Order
pub mod Built
pub mod Open
pub mod Words
pub mod Scopes

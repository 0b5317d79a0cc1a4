pub mod Selectors
pub mod Sizes
pub mod Properties
pub mod Decls
pub mod Rules

pub mod Certificates
pub mod Choices
pub mod Laws
pub mod Lines
pub mod Plans
pub mod Rests

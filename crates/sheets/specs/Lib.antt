pub mod DefaultText
pub mod Files
pub mod Laws
pub mod List
pub mod Readings
pub mod Sheets
pub mod Sources

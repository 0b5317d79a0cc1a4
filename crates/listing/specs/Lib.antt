pub mod Fields
pub mod Pages
pub mod Printed
pub mod Printer
pub mod Puts
pub mod Records

pub mod Lines
pub mod Watches

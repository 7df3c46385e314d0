pub mod NamedParts
pub mod Readings
pub mod Requests

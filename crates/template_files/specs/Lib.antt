pub mod Defaults
pub mod Faults
pub mod Joining
pub mod Meaning
pub mod Parts
pub mod Reading
pub mod Stops

pub mod Descriptors
pub mod Openings
pub mod Statuses
pub mod Words

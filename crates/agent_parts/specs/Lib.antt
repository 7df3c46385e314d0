pub mod Consoles
pub mod Jobs
pub mod Openings
pub mod Statuses
pub mod Turns

pub mod Courses
pub mod Outcomes
pub mod Registrations
pub mod Sendings
pub mod Spellings
pub mod Takings
pub mod Upkeeping

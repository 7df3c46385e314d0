pub mod Characters
pub mod Patterns

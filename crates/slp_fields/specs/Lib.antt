pub mod Reading
pub mod Spelling
pub mod Steps
pub mod Writing

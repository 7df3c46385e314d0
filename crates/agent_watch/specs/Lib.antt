pub mod Watching
pub mod Words

pub mod Books
pub mod Events
pub mod Pasts

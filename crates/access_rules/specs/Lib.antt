pub mod Codes
pub mod Deciding

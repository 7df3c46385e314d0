pub mod Spots
pub mod Passes
pub mod Places
pub mod Lists

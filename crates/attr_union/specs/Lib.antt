pub mod Gathering
pub mod Rooms
pub mod Unions

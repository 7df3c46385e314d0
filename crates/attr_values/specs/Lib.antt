pub mod Kinds
pub mod Ranks
pub mod Reading
pub mod Rests
pub mod Values

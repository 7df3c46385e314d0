pub mod Forms
pub mod Integers
pub mod OpaqueBytes
pub mod PrintedValues
pub mod Ranks
pub mod Rests
pub mod Rows

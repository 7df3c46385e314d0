pub mod Codes
pub mod Conformity
pub mod Templates

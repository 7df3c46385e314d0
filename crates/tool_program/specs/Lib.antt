pub mod Calls
pub mod Commands
pub mod Printing

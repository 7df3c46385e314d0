pub mod Asking
pub mod Bodies
pub mod Extensions
pub mod Reading
pub mod Spelling

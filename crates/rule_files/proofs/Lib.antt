pub mod ReadRules
pub mod Versions

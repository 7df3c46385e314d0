pub mod Abouts
pub mod DecidingRules
pub mod Owners
pub mod Parts
pub mod ShownKinds

pub mod Parts
pub mod Searches
pub mod SignCodes
pub mod TagIndexes
pub mod Tags

pub mod Falls
pub mod Matches
pub mod Searches
pub mod SignCodes
pub mod SignReaders
pub mod SweptTexts
pub mod TagIndexes
pub mod TagLists

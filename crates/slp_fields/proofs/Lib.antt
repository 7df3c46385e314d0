pub mod EntryLoops
pub mod Faults
pub mod ListLengths
pub mod Room
pub mod SkippedFields
pub mod Texts

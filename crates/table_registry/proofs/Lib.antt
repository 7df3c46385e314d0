pub mod Along
pub mod Contents
pub mod Neighbours
pub mod OneType
pub mod Ranges
pub mod TypeOrder
pub mod Skipped

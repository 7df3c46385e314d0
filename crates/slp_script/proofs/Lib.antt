pub mod Fronts
pub mod OneReading
pub mod Words

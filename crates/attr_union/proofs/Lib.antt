pub mod FirstValues
pub mod GatheredMaps
pub mod KeptPieces
pub mod LentUnions
pub mod LentValues

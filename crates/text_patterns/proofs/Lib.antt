pub mod Building
pub mod Folding
pub mod Ordered
pub mod Pieces
pub mod Plain

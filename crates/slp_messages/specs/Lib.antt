pub mod Fields
pub mod Layouts
pub mod Messages
pub mod Tags
pub mod Views

pub mod ConcernedEntries
pub mod Denials
pub mod LanguageWalks
pub mod Maps
pub mod NamedEntries
pub mod Rulings
pub mod Steps

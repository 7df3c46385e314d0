pub mod Conformities
pub mod DefinedTags
pub mod StoredTemplates

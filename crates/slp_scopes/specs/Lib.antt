pub mod ScopeNames
pub mod Scopes

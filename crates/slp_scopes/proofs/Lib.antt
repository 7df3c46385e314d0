pub mod PlainScopes
pub mod PrintedParts
pub mod PrintedScopes
pub mod ScopeNames
pub mod ScopeRows

pub mod Audits
pub mod Tellings
pub mod TextLists

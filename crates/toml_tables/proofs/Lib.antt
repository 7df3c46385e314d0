pub mod Arrays
pub mod KeysOfTables

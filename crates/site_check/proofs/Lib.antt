pub mod Begun
pub mod HiddenRules
pub mod Sites
pub mod Stops
pub mod TableKeys
pub mod Written

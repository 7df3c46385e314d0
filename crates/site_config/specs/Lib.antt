pub mod Configurations
pub mod Tables

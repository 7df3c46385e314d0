pub mod Logging
pub mod Queues

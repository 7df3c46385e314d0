pub mod Advancing
pub mod Exchanges
pub mod Handing
pub mod Ports
pub mod Reaching
pub mod Served
pub mod Sitting
pub mod Streaming

pub mod Asking
pub mod Keeping
pub mod Replies
pub mod Requests
pub mod Runs
pub mod Sockets
pub mod Upkeep
pub mod Wires

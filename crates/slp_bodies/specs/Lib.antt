pub mod Bodies
pub mod Replies

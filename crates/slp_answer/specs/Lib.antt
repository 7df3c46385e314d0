pub mod Answers
pub mod AskedChanges
pub mod Gathering
pub mod ServiceReplies

pub mod Greetings
pub mod Replies

pub mod Answers
pub mod Connection
pub mod Health
pub mod Page
pub mod Text
pub mod Times

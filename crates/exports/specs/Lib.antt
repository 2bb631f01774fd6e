pub mod Answers
pub mod Sender
pub mod Tracker
pub mod Bank
pub mod Lent

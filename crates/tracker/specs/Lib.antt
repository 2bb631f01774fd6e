pub mod Answers
pub mod Examples
pub mod Model
pub mod Parts
pub mod Sound
pub mod Steps

pub mod Constants
pub mod Model
pub mod Sound
pub mod Steps
pub mod Answers
pub mod Lending

pub mod View
pub mod Parts
pub mod Sound
pub mod Answers
pub mod After
pub mod Pace

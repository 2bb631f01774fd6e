pub mod Station
pub mod Watch
pub mod Examples
pub mod Counting

pub mod Journal
pub mod Whole
pub mod Pieces
pub mod Parts
pub mod Runs
pub mod Examples

pub mod Carrying
pub mod Back

pub mod Constants
pub mod Departures
pub mod Left
pub mod Model
pub mod Scores
pub mod Steps

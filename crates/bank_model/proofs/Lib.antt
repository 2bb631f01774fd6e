pub mod Padding
pub mod Tests
pub mod Scoring
pub mod Ready
pub mod Places
pub mod Others
pub mod Departing

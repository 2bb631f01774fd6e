pub mod Views
pub mod Tests
pub mod Largest
pub mod Variance
pub mod Samples
pub mod Readings

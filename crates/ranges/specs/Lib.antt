pub mod Interval
pub mod Limits
pub mod Settings
pub mod Average
pub mod Mean

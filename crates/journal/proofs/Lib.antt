pub mod Serving
pub mod Taking
pub mod Ending

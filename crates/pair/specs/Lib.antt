pub mod Examples
pub mod Lock
pub mod Model
pub mod Readings
pub mod Sound

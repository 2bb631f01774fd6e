pub mod Examples
pub mod Locking
pub mod Reading
pub mod Soundness
pub mod Starting

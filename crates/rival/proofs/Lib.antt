pub mod Each
pub mod Sounding

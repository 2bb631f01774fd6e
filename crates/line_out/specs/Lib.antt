pub mod Codes
pub mod Shown
pub mod Bytes
pub mod Written
pub mod Form
pub mod Examples

pub mod Digits
pub mod Holding
pub mod Lining
pub mod Reading
pub mod Form
pub mod Examples

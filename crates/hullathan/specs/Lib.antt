pub mod Host
pub mod Promise
pub mod Parts
pub mod Layout
pub mod Version

pub mod Fields
pub mod Form
pub mod Exact
pub mod Examples

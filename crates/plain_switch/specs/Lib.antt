pub mod Switch
pub mod Parts

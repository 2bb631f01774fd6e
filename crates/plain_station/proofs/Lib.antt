pub mod Back
pub mod Told
pub mod Canonical
pub mod Tidied

pub mod Plain
pub mod Canonical
pub mod Tidied

pub mod Joining
pub mod Gathering
pub mod Answering
pub mod Feeding
pub mod Advancing
pub mod Going
pub mod Running
pub mod Examples

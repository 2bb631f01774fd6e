pub mod Parting
pub mod Numbers
pub mod Letters
pub mod Forms
pub mod Exact
pub mod Examples

pub mod Band
pub mod Constants
pub mod Lists
pub mod Parts
pub mod Sort

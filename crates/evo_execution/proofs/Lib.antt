pub mod Samples
mod Examples
pub mod Falls
pub mod Whole

pub mod Read
pub mod Closed
pub mod ReadModules

pub mod Words
pub mod Tables
pub mod Execution
pub mod Loaded
pub mod Laws

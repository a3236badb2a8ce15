pub mod Passing
pub mod Quick
pub mod Reached
pub mod Runs
pub mod Starts

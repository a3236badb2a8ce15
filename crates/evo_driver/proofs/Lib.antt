pub mod Gives
pub mod Runs
pub mod Filters
pub mod Loads
pub mod Built
pub mod Written
pub mod OneAnswer

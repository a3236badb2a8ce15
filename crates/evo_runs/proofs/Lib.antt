pub mod Follow
pub mod Moved
pub mod QuickSteps
pub mod Says
pub mod Sinks
pub mod Starts

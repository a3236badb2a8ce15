pub mod Views
pub mod Limits
pub mod Groups
pub mod Texts
pub mod Worlds
pub mod Heads

pub mod Rule
pub mod Reader
pub mod Guard
pub mod Laws
pub mod Nesting
pub mod Attempt
pub mod Three
pub mod Contract

pub mod Interface
pub mod Calls
pub mod Copies
pub mod Accepted
pub mod Rules
pub mod Words
pub mod FirstForm
pub mod Facts

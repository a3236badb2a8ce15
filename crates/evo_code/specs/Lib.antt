pub mod Named
pub mod Layouts
pub mod Symbols
pub mod Loads
pub mod Laws
pub mod Groups

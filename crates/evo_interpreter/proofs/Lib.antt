pub mod Endings
pub mod Lines
pub mod Lists
pub mod Stores
pub mod Texts

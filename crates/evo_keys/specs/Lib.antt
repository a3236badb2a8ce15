pub mod Bases
pub mod Marks
pub mod Members
pub mod Owned
pub mod Roots
pub mod Texts
pub mod Types

pub mod Views
pub mod Texts
pub mod Located
pub mod Sought
pub mod Conforming
pub mod Inheriting
pub mod Associated

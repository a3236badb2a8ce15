pub mod Known
pub mod Free
pub mod Visible
pub mod Plain
pub mod Within
pub mod Unbuilt

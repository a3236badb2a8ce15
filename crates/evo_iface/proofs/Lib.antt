pub mod Fronts
pub mod Terms
pub mod Lines

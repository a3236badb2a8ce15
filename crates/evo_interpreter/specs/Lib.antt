pub mod Words
pub mod Integers
pub mod Lines
pub mod Frames
pub mod States

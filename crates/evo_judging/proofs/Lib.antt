pub mod Judges
pub mod Steps

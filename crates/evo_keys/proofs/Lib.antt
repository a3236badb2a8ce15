pub mod Firsts
pub mod Declaring
pub mod Rooting

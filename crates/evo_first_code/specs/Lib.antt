pub mod Meaning
pub mod Objects
pub mod Works
pub mod Linking
pub mod Keys

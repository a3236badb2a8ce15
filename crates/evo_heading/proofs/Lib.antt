pub mod Fronts
pub mod Names
pub mod Numbers
pub mod Headings

pub mod States
pub mod Agree
pub mod Turns
pub mod Same
pub mod Last
pub mod Properties
pub mod Exact
pub mod Texts

pub mod Words
pub mod Same
pub mod Found
pub mod Conditions
pub mod Rules
pub mod Laws

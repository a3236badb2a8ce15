pub mod Equal
pub mod Finding
pub mod Nothing
pub mod Above
pub mod Unbroken
pub mod Alone

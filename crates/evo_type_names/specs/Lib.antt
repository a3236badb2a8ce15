pub mod Starts
pub mod Round
pub mod Prefixes
pub mod Aliases
pub mod Known
pub mod Resolving

pub mod Alias
pub mod Generics
pub mod Joined
pub mod Lists
pub mod Walks
pub mod Stacks

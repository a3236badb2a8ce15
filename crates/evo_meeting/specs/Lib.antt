pub mod Spots
pub mod WrittenNames
pub mod Unwritten
pub mod DeclaredNames
pub mod Candidates

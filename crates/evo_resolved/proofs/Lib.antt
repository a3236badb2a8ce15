pub mod Writes
pub mod Indexing
pub mod Walking

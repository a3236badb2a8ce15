pub mod Judge
pub mod Right

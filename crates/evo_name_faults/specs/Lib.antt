pub mod Twice
pub mod Unknown
pub mod Others
pub mod Conformances
pub mod Second
pub mod Left

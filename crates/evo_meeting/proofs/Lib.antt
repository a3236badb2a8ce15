pub mod Equal
pub mod AmongCandidates
pub mod Unwritten
pub mod DeclaredAll

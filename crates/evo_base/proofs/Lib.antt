pub mod KeywordLemmas
pub mod Names
pub mod Counting
pub mod Handing
pub mod Loops
pub mod Places
pub mod Plans
pub mod Puts

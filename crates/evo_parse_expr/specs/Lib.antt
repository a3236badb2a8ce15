pub mod Contract
pub mod Fault
pub mod Laws
pub mod Levels
pub mod ReadsInner
pub mod Read
pub mod AtDepth

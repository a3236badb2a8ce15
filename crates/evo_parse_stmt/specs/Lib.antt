pub mod Read
pub mod ReadsInner
pub mod AtDepth

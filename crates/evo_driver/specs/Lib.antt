pub mod Status
pub mod Files
pub mod Loading
pub mod Answer
pub mod Top
pub mod Laws

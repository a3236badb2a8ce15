pub mod Rules
pub mod Walks
pub mod Forms
pub mod From
pub mod To
pub mod Exact
pub mod Grows
pub mod Answers
pub mod Wholes
mod WalkExamples

pub mod SameExpressions
pub mod Sizes
pub mod SameStatements
pub mod CanonicalExamples

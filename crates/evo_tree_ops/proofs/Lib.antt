pub mod Lists
pub mod SameDeclarations

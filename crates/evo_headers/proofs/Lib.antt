pub mod Lists
pub mod Generics
pub mod Lacking
pub mod Classes
pub mod DeclaredKinds
pub mod Placing

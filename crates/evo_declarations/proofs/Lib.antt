pub mod Lists
pub mod PastLimits
pub mod Grouping
pub mod ByGroup
pub mod HeadsInGroups
pub mod LanguageTypes

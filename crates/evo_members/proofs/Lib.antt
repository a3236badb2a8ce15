pub mod Everything
pub mod Groups
pub mod Bases
pub mod Members
pub mod Inherited
pub mod ByBase
pub mod AssociatedTypes
pub mod NoAliases

pub mod Contract
pub mod Text

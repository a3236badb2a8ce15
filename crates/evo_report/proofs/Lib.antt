pub mod Samples
mod Cases

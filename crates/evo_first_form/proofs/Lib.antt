pub mod WordLemmas
pub mod Each
pub mod FactLemmas

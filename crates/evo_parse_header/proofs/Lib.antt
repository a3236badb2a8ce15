pub mod Sets
pub mod Parses
pub mod Tests
pub mod Productions
pub mod Payloads
pub mod Numbers

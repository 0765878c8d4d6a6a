pub mod Least
pub mod code

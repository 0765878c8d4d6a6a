pub mod Texts
pub mod code

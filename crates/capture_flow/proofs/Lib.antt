pub mod Extending
pub mod Solved

pub mod Assembled
pub mod Lifting

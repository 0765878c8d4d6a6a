pub mod Distributed
pub mod Walked

pub mod Edges
pub mod Members

pub mod Least
pub mod Table
pub mod Targets

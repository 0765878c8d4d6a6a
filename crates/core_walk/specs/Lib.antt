pub mod Bound
pub mod First
pub mod NameCounts
pub mod Walk

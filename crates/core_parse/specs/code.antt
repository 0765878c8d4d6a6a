pub mod Pushdown
pub mod Verdicts

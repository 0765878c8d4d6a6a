pub mod Pieces
pub mod Runs
pub mod Tables
pub mod Tokens
pub mod Trees

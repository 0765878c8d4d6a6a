pub mod NumberLaws
pub mod TreeNumbers

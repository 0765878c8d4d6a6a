pub mod Back
pub mod Captures
pub mod Counting
pub mod GatheredFacts
pub mod ProgramFacts

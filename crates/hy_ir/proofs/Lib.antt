pub mod Checks
pub mod Endings
pub mod Erasing
pub mod PlaceLemmas
pub mod RegisterLemmas
pub mod ViewLemmas

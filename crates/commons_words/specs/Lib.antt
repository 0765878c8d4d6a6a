pub mod Held
pub mod Passes
pub mod Reading
pub mod Trials

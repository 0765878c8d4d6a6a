pub mod Called
pub mod code

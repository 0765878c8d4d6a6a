pub mod code
pub mod Steps
pub mod Tops
pub mod Trees

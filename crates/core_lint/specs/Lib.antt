pub mod Linted
pub mod ModuleAtoms
pub mod code

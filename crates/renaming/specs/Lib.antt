pub mod Bindings
pub mod RenamedProgram
pub mod RenamedSyntax
pub mod VariableLimit

pub mod Below
pub mod GrammarAtoms
pub mod OwnAtoms
pub mod PreludeAtoms

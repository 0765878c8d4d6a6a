pub mod ExtractedSyntax
pub mod LiftedFunctions
pub mod LiftedSyntax
pub mod LiftedTrees
pub mod LiftingLaws
pub mod Whole

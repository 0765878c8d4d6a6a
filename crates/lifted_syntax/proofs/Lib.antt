pub mod ExtractedResolved
pub mod KnownWhole
pub mod LiftedCounts
pub mod LiftedResolved
pub mod ProgramResolved

pub mod WorkedFlow
pub mod WorkedInclusions

pub mod CountsGiven
pub mod NestedCounts
pub mod Origins
pub mod Parts
pub mod code

pub mod CallParts
pub mod LocalCount
pub mod NumberedModules
pub mod NumberedParts

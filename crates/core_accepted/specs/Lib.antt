pub mod AcceptedPrograms
pub mod TreeSites
pub mod WorkedPrograms

pub mod BareLifted
pub mod BareResolved
pub mod BareSupplied
pub mod Numbering
pub mod Reading

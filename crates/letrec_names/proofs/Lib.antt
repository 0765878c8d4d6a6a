pub mod FormSyntax
pub mod Giving
pub mod Naming
mod GivenOrigins
pub mod PassedForms
pub mod Passing

pub mod FieldLemmas
pub mod Headers
pub mod HeightLemmas
pub mod Naming
pub mod Numbers
pub mod Scalars
pub mod Standing

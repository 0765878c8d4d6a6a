pub mod DeclaredLabelled
pub mod DeclaredLemmas
mod KeyLemmas
pub mod LabelledLemmas
pub mod NamingLemmas
pub mod OrderLemmas
pub mod RangeLemmas

pub mod Exact
pub mod FactsComplete
pub mod FactsSound
pub mod FactsSupplied
pub mod Places

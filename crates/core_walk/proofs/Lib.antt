pub mod BoundLemmas
pub mod FirstLemmas
pub mod NameCountLemmas
pub mod WalkLemmas

mod BindingLemmas
mod BoundLemmas
mod PartLemmas
mod PatternLemmas
mod RegisterLemmas
mod TreeLemmas

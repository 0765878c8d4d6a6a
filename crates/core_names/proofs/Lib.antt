pub mod CalledLemmas
mod RowLemmas

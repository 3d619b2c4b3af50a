pub mod BitLemmas
pub mod MemoryLemmas
pub mod WriteLemmas
pub mod OverwriteLemmas
pub mod ShapeLemmas

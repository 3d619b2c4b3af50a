pub mod EntryLemmas
pub mod StoreLemmas
pub mod MarkLemmas
pub mod SliceLemmas
pub mod AssemblyLemmas
pub mod NameLemmas
pub mod HeadLemmas
pub mod DigitLemmas

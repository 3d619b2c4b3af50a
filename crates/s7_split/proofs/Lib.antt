pub mod PartLemmas
pub mod PartLaws
pub mod GroupLaws

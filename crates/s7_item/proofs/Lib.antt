pub mod ItemLemmas
pub mod DataLemmas
pub mod WriteLemmas
pub mod ItemLaws
pub mod WordLemmas
pub mod DataLaws
pub mod SizeLaws

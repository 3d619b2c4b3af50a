pub mod SampleLemmas
pub mod SeenLemmas
pub mod ShownLemmas

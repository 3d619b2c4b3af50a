pub mod PartLemmas
pub mod CutLemmas
pub mod SeenLemmas
pub mod LookLemmas
pub mod WatchLemmas
pub mod LawLemmas

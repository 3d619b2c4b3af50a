pub mod NearLemmas
pub mod TrailLemmas

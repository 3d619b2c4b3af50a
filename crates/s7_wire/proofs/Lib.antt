pub mod BoxLemmas
pub mod GrowthLemmas
pub mod MessageLemmas
pub mod PlaceLemmas
pub mod ReaderLemmas
pub mod ReadingLemmas
pub mod SendLemmas

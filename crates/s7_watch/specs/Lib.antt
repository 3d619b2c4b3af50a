pub mod Samples
pub mod Looks
pub mod Lines
pub mod Watching
pub mod WatchShown
pub mod Laws

pub mod Bounds
pub mod Outgoing
pub mod Reading
pub mod Reads
pub mod Sent

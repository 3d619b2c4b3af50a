pub mod Padded
pub mod Told
pub mod Tpdus
pub mod Reading
pub mod Spelling
pub mod Gathered
pub mod Messages
pub mod Pairs

pub mod Octets
pub mod Tables
pub mod Images
pub mod Readers
pub mod Joined
pub mod Joining

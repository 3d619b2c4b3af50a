pub mod Events
pub mod Text
pub mod Talking
pub mod Sides
pub mod Pairs
pub mod Alone

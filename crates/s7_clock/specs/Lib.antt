pub mod Clock
pub mod Moment
pub mod Control

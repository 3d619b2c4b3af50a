pub mod Histories
pub mod Machines
pub mod Turns
pub mod Seats

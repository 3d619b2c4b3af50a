pub mod Asked
pub mod End
pub mod Hosts
pub mod LentDoor
pub mod Report
pub mod Saving
pub mod Statuses
pub mod Told

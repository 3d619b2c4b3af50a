pub mod Asked
pub mod Loading
pub mod Report
pub mod Statuses
pub mod Relay
pub mod End

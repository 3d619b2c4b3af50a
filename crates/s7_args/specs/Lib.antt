pub mod CommandLine
pub mod Built
pub mod Fields
pub mod Server
pub mod Tool
pub mod Shown
pub mod Relay
pub mod RelayShown

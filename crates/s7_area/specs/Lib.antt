pub mod Keys
pub mod Places
pub mod Guards
pub mod Memory
pub mod Registers
pub mod Laws

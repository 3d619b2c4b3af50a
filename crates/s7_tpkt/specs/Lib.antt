pub mod Packets
pub mod Cut
pub mod Front

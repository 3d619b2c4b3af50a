pub mod Octets
pub mod Header
pub mod Negotiation
pub mod UserParams

pub mod Chosen
pub mod OctetLemmas
pub mod HeaderLemmas
pub mod NegotiationLemmas
pub mod UserLemmas

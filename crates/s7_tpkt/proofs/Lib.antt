pub mod PacketLemmas
pub mod FeedLemmas
pub mod WriteLemmas

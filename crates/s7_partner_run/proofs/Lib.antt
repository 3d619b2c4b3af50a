pub mod ActLemmas
pub mod SideLemmas
pub mod PairLemmas
pub mod TurnLemmas
pub mod TalkLemmas
pub mod AloneLemmas
pub mod AloneSides

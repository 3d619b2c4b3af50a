pub mod ListLemmas
pub mod SeatLemmas
pub mod SharingLemmas
pub mod OpeningLemmas
pub mod LegalLemmas
pub mod DividingLemmas
pub mod BookLemmas

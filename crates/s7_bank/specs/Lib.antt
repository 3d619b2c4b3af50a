pub mod Areas
pub mod Dividing
pub mod Books
pub mod Seats
pub mod Sharing
pub mod Opening
pub mod BankLegal
pub mod BankLaws

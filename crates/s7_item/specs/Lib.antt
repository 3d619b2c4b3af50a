pub mod Codes
pub mod Gives
pub mod Word
pub mod Item
pub mod Params
pub mod DataItem
pub mod DataLaws
pub mod Sizes

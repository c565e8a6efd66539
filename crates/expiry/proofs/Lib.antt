pub mod Cleared
pub mod Lists
pub mod Held
pub mod Each
pub mod Round
pub mod Ended

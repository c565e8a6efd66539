pub mod Groups
pub mod Producers

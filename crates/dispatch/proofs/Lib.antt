pub mod Guard
pub mod Queue
pub mod Sorts
pub mod Idle

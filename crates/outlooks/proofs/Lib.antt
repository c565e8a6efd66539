pub mod Laws
pub mod Counts
pub mod Opened
pub mod Filled

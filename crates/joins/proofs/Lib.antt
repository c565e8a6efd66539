pub mod Lists
pub mod Copies
pub mod Snapshots
pub mod Refusals
pub mod Entering
pub mod Outcomes

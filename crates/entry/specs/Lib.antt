pub mod Cases
pub mod Entry

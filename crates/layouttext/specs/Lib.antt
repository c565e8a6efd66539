pub mod Rows
pub mod Verdict
pub mod Messages
pub mod Claims

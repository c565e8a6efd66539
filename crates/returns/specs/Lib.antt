pub mod Returns
pub mod Gaps

pub mod Reword
pub mod Parts
pub mod Tested
pub mod Outcomes

pub mod Answers
pub mod State
pub mod Fits
pub mod Leaves
pub mod Ready
pub mod Parts

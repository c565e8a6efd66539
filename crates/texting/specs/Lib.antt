pub mod Lines
pub mod Parts
pub mod Shown
pub mod Whole
pub mod Cases

pub mod Lines
pub mod Covers
pub mod Saying
pub mod Theorems

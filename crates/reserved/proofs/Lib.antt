pub mod Types
pub mod Loops
pub mod Taking

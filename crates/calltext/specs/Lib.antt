pub mod Names
pub mod Lines
pub mod Faults
pub mod Shown
pub mod Cases

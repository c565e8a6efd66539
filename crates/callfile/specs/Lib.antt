pub mod Blocks
pub mod Lines
pub mod Placed
pub mod Cutting
pub mod Cases

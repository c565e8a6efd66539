pub mod Fitting
pub mod Rest
pub mod Decoded
pub mod Ranges

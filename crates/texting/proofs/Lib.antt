pub mod Taking
pub mod Showing
pub mod Whole

pub mod Browsers
pub mod Serving

pub mod Scanning
pub mod Values
pub mod Words
pub mod Spaced

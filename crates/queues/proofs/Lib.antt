pub mod Viewing
pub mod Looking
pub mod Giving
pub mod Onward
pub mod Visiting
pub mod Scanning
pub mod Guard

pub mod Expiry
pub mod Sweep

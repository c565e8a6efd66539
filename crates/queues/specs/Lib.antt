pub mod Look
pub mod Give
pub mod Scan

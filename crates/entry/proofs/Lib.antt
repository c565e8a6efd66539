pub mod Redelivery
pub mod Rows

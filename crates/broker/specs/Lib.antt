pub mod Broker
pub mod Cases

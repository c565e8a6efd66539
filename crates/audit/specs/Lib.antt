pub mod Audit
pub mod Cases

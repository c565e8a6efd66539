pub mod Acks
pub mod Rules
pub mod Parts

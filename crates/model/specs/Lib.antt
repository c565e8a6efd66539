pub mod Model
pub mod Refusal

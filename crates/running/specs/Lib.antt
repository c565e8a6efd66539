pub mod Running
pub mod Files
pub mod Cases

pub mod Ranges
pub mod Sending
pub mod Called
pub mod Blocks
pub mod Steps
pub mod Pieces
pub mod Files
pub mod Along

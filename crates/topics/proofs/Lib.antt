pub mod Serve
pub mod Turn
pub mod All
pub mod Round

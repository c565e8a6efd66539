pub mod Rules
pub mod Flying
pub mod Parts
pub mod Telling
pub mod Whole

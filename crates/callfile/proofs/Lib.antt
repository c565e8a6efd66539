pub mod Checks
pub mod Digits
pub mod Parts
pub mod Events
pub mod Sets
pub mod Cutting
pub mod Filling
pub mod Texts

pub mod Copying
pub mod Words
pub mod Rows
pub mod Called
pub mod Claims

pub mod Books
pub mod Told
pub mod Cases

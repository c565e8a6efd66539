pub mod Fates
pub mod Account
pub mod Report
pub mod Blocks
pub mod Books
pub mod Cases

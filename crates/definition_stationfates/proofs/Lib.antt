pub mod Letters
pub mod Books
pub mod Along
pub mod Made
pub mod Rows
pub mod Ended
pub mod Told

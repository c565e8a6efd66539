pub mod Tests
pub mod Rows
pub mod Subs
pub mod Looked

pub mod Show
pub mod Dropped
pub mod Turn
pub mod Sending
pub mod All
pub mod Round

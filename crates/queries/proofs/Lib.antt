pub mod Lists
pub mod Opened
pub mod Bytes
pub mod Held
pub mod Answered
pub mod Paging
pub mod Filled

pub mod Laws
pub mod Line
pub mod Lists
pub mod Seek
pub mod Strict
pub mod Table
pub mod View
pub mod Words

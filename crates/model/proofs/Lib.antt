pub mod Ids
pub mod Table

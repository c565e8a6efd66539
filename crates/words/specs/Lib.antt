pub mod Pick
pub mod Words
pub mod Places

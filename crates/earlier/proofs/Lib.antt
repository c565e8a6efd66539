pub mod Settings
pub mod Stays
pub mod Plain
pub mod Before

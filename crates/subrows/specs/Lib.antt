pub mod Subrows

pub mod Layouts
pub mod Claims
pub mod Steps
pub mod Cases

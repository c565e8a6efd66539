pub mod Telling
pub mod Turns
pub mod Hearing
pub mod ReportAlong
pub mod ReportBooks

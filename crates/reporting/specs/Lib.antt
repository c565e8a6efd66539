pub mod Reporting
pub mod ReportFiles
pub mod ReportBooks
pub mod ReportCases

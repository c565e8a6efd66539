pub mod StationReporting
pub mod Gathering
pub mod StationReportFiles
pub mod StationReportBooks
pub mod StationReportCases

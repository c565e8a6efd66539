pub mod StationReportLines

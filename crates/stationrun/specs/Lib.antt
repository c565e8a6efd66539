pub mod StationRuns
pub mod CallSteps
pub mod StationFiles
pub mod StationCases

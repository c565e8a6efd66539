pub mod Starts
pub mod Called
pub mod CallSteps
pub mod CallsAlong
pub mod CallsWritten
pub mod Stepped
pub mod StationAlong
pub mod Ends

pub mod StationBlocks
pub mod Cases

pub mod StationLines

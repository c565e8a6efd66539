pub mod Parse
pub mod Compare
pub mod Cases

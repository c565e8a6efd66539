pub mod Tables
pub mod Gathering
pub mod Faulting
pub mod Showing
pub mod Decimals
pub mod RoundTrip

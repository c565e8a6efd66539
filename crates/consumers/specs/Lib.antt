pub mod Consumers
pub mod Seats
pub mod Table

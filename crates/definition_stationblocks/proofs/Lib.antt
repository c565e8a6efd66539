pub mod Settled
pub mod OneLook
pub mod Chain
pub mod Station

pub mod Batches
pub mod Booked
pub mod Control
pub mod Held
pub mod Parts
pub mod Pumps
pub mod Rounds
pub mod Sweep

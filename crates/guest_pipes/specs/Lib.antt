pub mod Progress
pub mod Step
pub mod Gate
pub mod Unserved
pub mod Pipe
pub mod Orders
pub mod Wanted
pub mod WantedLaws
